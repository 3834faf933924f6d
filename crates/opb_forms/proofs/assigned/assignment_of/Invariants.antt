use Rattle.std.proofs.Common.{◌≡◌, ℕ, ◌≤◌, length, take}
use Rattle.rows.specs.Values.{assigned}
use Rattle.opb_forms.specs.Values.{value_in}
use Rattle.opb_forms.proofs.assigned.assignment_of.Given as goal

abbrev pub invariant-loop-lit : goal.invariant-loop-lit
invariant-loop-lit l = record {
  length : length l.values ≡ l.vars;
  values : (v : ℕ) → 1 ≤ v → v ≤ l.vars → assigned l.values v ≡ value_in (take l.lit-index l.lits) v;
}
