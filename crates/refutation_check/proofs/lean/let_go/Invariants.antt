use Rattle.std.proofs.Common.{◌≡◌, ◌+◌, drop}
use Rattle.refutation_check.specs.Forgotten.{IsLean}
use Rattle.refutation_check.specs.Judged.{Judged}
use Rattle.refutation_check.proofs.lean.let_go.Given as goal

abbrev pub invariant-loop-place : goal.invariant-loop-place
invariant-loop-place l = record {
  rows : l.checker.rows ≡ l.fn.checker.rows;
  lean : (full : Judged) → IsLean full l.fn.checker l.fn.freed (drop (l.k + 1) l.log)
      → IsLean full l.checker l.freed (drop (l.k + 1) l.log);
}
