use Rattle.std.proofs.Common.{◌≢◌, ℕ, ◌≤◌}
use Rattle.rows.specs.declared.partial.Value.TheVariants.{Free}
use Rattle.propagate.specs.Trails.{values_of}
use Rattle.clause_search.proofs.pick.lowest_free.Given as goal

abbrev pub invariant-loop-before : goal.invariant-loop-before
invariant-loop-before l = (v : ℕ) → 1 ≤ v → v ≤ l.before → values_of l.trail.entries v ≢ Free
