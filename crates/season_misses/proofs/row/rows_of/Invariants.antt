use Rattle.std.proofs.Common.{◌≡◌, ◌++◌, drop, map}
use Rattle.season_misses.specs.Rows.{rows_from}
use Rattle.season_misses.specs.SeenRow.{row_of}
use Rattle.season_misses.proofs.row.rows_of.Given as goal

-- the rows so far, and then those of the reasons that are left, are all
abbrev pub invariant-loop-k : goal.invariant-loop-k
invariant-loop-k l = map row_of l.made.items ++ rows_from l.told (drop l.k l.reasons) ≡ rows_from 0 l.reasons
