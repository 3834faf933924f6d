use Rattle.std.specs.Prelude.{◌≡◌}
use Rattle.example_calls.proofs.canonical.walked.walk.Given as goal

-- the board and the edit are of one league
abbrev pub invariant-loop-k : goal.invariant-loop-k
invariant-loop-k l = l.edit.n ≡ l.board.n
