use Rattle.std.specs.Prelude.{◌≡◌, ◌+◌, ◌≤◌, length, vec_capacity}
use Rattle.std.specs.List.{All}
use Rattle.league.specs.Counts.{counts_of}
use Rattle.league.specs.Instance.{IsGame}
use Rattle.moves.specs.Round.{round_counts}
use Rattle.descent.proofs.SeasonLemmas.{IsWithAways}
use Rattle.walk.proofs.copies.add_home_games.Given as goal

-- the games against the teams so far
abbrev pub invariant-loop-away : goal.invariant-loop-away
invariant-loop-away l = record {
  counts : IsWithAways (counts_of l.initial.games.items) (round_counts l.board) l.home.0 l.away l.games.items;
  fit : All (IsGame l.board.n) l.games.items;
  few : length l.games.items ≤ length l.initial.games.items + l.away;
  room : vec_capacity l.games ≡ vec_capacity l.initial.games;
}
