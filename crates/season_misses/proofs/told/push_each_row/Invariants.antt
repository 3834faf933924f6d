use Rattle.std.proofs.Common.{◌≡◌, ◌++◌, drop, map, string_bytes}
use Rattle.std.specs.List.{flat_map}
use Rattle.season_misses.specs.Misses.{row_line}
use Rattle.season_misses.specs.SeenRow.{row_of}
use Rattle.season_misses.proofs.told.push_each_row.Given as goal

-- the text so far, and then what is left, is the whole
abbrev pub invariant-loop-row : goal.invariant-loop-row
invariant-loop-row l =
    string_bytes l.text ++ flat_map (row_line l.n l.names l.class) (map row_of (drop l.row-index l.rows))
    ≡ string_bytes l.fn.text ++ flat_map (row_line l.n l.names l.class) (map row_of l.rows)
