use Rattle.std.specs.Prelude.{◌≡◌}
use Rattle.example_calls.proofs.canonical.walked.try_all.Given as goal

-- the board and the edit are of one league
abbrev pub invariant-loop-step : goal.invariant-loop-step
invariant-loop-step l = l.edit.n ≡ l.board.n
