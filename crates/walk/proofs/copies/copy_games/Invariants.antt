use Rattle.std.specs.Prelude.{◌≡◌, ◌*◌, ◌≤◌, length, vec_capacity}
use Rattle.std.specs.List.{All}
use Rattle.league.specs.Instance.{IsGame}
use Rattle.moves.specs.Round.{round_counts}
use Rattle.descent.proofs.SeasonLemmas.{IsBelow}
use Rattle.walk.proofs.copies.copy_games.Given as goal

-- the home games of the teams so far
abbrev pub invariant-loop-home : goal.invariant-loop-home
invariant-loop-home l = record {
  counts : IsBelow (round_counts l.board) l.home l.games.items;
  fit : All (IsGame l.board.n) l.games.items;
  few : length l.games.items ≤ l.home * l.board.n;
  room : vec_capacity l.games ≡ vec_capacity l.fn.games;
}
