use Rattle.std.proofs.Common.{ℕ, ◌<◌, ◌≤◌, get_or}
use Rattle.rows.specs.declared.lit.Term.{Term}
use Rattle.propagate.proofs.table.enough_of.Given as goal

abbrev pub invariant-loop-term : goal.invariant-loop-term
invariant-loop-term l = (j : ℕ) (d : Term) → j < l.term-index → (get_or l.terms j d).coef ≤ l.most
