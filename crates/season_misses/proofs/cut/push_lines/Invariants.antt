use Rattle.std.proofs.Common.{◌≡◌, ◌++◌, drop, string_bytes}
use Rattle.std.specs.List.{flat_map}
use Rattle.season_misses.specs.Misses.{list_line}
use Rattle.season_misses.proofs.cut.push_lines.Given as goal

-- the text so far, and then what is left, is the whole
abbrev pub invariant-loop-line : goal.invariant-loop-line
invariant-loop-line l = string_bytes l.text ++ flat_map (list_line l.front) (drop l.line-index l.lines) ≡ string_bytes l.fn.text ++ flat_map (list_line l.front) l.lines
