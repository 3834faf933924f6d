use Rattle.std.proofs.Common.{◌≡◌, ◌+◌, drop}
use Rattle.season_misses.specs.Rows.{more_windows}
use Rattle.season_misses.proofs.row.more_windows.Given as goal

-- those so far go on, and then as many as go on from the last of them
abbrev pub invariant-loop-k : goal.invariant-loop-k
invariant-loop-k l = more_windows l.first l.others ≡ l.k + more_windows l.before (drop l.k l.others)
