use Rattle.std.proofs.Common.{◌≡◌, ℕ, ◌<◌, ◌≤◌, ◌⊎◌, get_or}
use Rattle.rows.specs.Partials.{value_of}
use Rattle.rows.specs.declared.lit.Term.{Term}
use Rattle.rows.specs.declared.partial.Value.TheVariants.{False}
use Rattle.propagate.specs.Trails.{values_of}
use Rattle.propagate.proofs.clause.next_open.Given as goal

abbrev pub invariant-loop-term : goal.invariant-loop-term
invariant-loop-term l = (j : ℕ) (d : Term) → j < l.term-index
    → (value_of (values_of l.path.entries) (get_or l.terms j d).lit ≡ False)
    ⊎ ((1 ≤ l.skip) × ((get_or l.terms j d).lit.var ≡ l.skip))
