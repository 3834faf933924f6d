use Rattle.std.specs.Prelude.{◌≡◌, ℕ, length}
use Rattle.rule_core.specs.Table.{table_counts}
use Rattle.moves.specs.Round.{round_counts}
use Rattle.example_calls.proofs.canonical.tried.show_tried.Given as goal

-- the tally has the games of the board
abbrev pub invariant-steps : goal.invariant-steps
invariant-steps l = record {
  edit : l.edit.n ≡ l.board.n;
  tally : l.tally.table.n ≡ l.league.n;
  same : (i j s : ℕ) → table_counts l.tally.table i j s ≡ round_counts l.board i j s;
}

-- each iteration takes a move off the list
abbrev pub decreases-steps : goal.decreases-steps
decreases-steps l = length l.steps
