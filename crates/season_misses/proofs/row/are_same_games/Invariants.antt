use Rattle.std.proofs.Common.{◌≡◌, drop}
use Rattle.season_misses.specs.Rows.{are_same_games}
use Rattle.season_misses.proofs.row.are_same_games.Given as goal

-- those that are left are the same exactly if all are
abbrev pub invariant-loop-k : goal.invariant-loop-k
invariant-loop-k l = are_same_games (drop l.k l.games) (drop l.k l.others) ≡ are_same_games l.games l.others
