use Rattle.std.proofs.Common.{ℕ, ◌<◌, ◌≤◌, get_or}
use Rattle.rows.specs.declared.lit.Term.{Term}
use Rattle.propagate.proofs.table.see_variables.Given as goal

abbrev pub invariant-loop-term : goal.invariant-loop-term
invariant-loop-term l = (j : ℕ) (d : Term) → j < l.term-index → 1 ≤ (get_or l.terms j d).lit.var
