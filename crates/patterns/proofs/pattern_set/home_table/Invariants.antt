use Rattle.std.proofs.Common.{◌≡◌, ℕ, ◌≤◌, take}
use Rattle.std.specs.List.{All}
use Rattle.league.specs.Counts.{counts_of}
use Rattle.league.specs.Grid.{entry}
use Rattle.league.specs.Instance.{IsGame}
use Rattle.league.specs.Venues.{home_games}
use Rattle.patterns.proofs.pattern_set.home_table.Given as goal

abbrev pub invariant-loop-game : goal.invariant-loop-game
invariant-loop-game l = record {
  counted : (n : ℕ) → All (IsGame n) l.games → (i s : ℕ) → entry l.table i s ≡ home_games n (counts_of (take l.game-index l.games)) i s;
  bounded : (i s : ℕ) → entry l.table i s ≤ l.game-index;
}
