use Rattle.std.proofs.Common.{sym, subst}
use Rattle.propagate.specs.Paths.{SeenPath}
use Rattle.propagate.specs.Trails.{IsQuietBelow, SeenTrail}
use Rattle.propagate.proofs.EntryLemmas.{quiet_below-grown}
use Rattle.propagate.proofs.trail.Trail.run.Goals as goal

pub invariant_of-self : goal.invariant_of-self
invariant_of-self c = c.settle.ensures.trail

pub returns-clause-below : goal.returns-clause-below
returns-clause-below c = λ below.
    subst (λ (p : SeenPath). IsQuietBelow p.rows c.settle.new.path.entries) (sym c.settle.ensures.grown.same)
    (quiet_below-grown c.self.inside.path.rows c.self.inside.path.entries c.settle.new.path.entries
    c.settle.ensures.grown.grown
    (subst (λ (t : SeenTrail). IsQuietBelow t.rows t.entries) (sym c.self.view_is) below))
