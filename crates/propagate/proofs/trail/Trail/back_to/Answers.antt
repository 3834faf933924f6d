use Rattle.std.proofs.Common.{◌<◌, ℕ, arith, ap, sym, subst}
use Rattle.rows.specs.Partials.{IsQuiet}
use Rattle.propagate.specs.Paths.{SeenPath}
use Rattle.propagate.specs.Trails.{IsQuietBelow, SeenTrail, level_of, values_of}
use Rattle.propagate.specs.declared.settle.Looked.{Looked}
use Rattle.propagate.proofs.EntryLemmas.{quiet-back, quiet_below-back}
use Rattle.propagate.proofs.TrailLemmas.{IsTrail-back}
use Rattle.propagate.proofs.trail.Trail.back_to.Goals as goal

pub invariant_of-self : goal.invariant_of-self
invariant_of-self c =
    let less : c.args.level < level_of c.self.inside.path.entries = omega (arith, c.level.ensures) in
    IsTrail-back c.self.inside.path c.back_to.new.self c.self.inside.watches c.self.inside.looked
    (record { entries = c.len.result; rows = c.self.inside.watches.hung }) c.args.level c.self.invariant
    c.back_to.ensures.same c.back_to.ensures.back less
    (ap (λ (n : ℕ). let l : Looked = record { entries = n; rows = c.self.inside.watches.hung } in l)
    c.len.ensures.len)

pub returns-clause-below : goal.returns-clause-below
returns-clause-below c = λ below.
    subst (λ (p : SeenPath). IsQuietBelow p.rows c.back_to.new.self.entries) (sym c.back_to.ensures.same)
    (quiet_below-back c.self.inside.path.rows c.args.level c.self.inside.path.entries c.back_to.new.self.entries
    c.back_to.ensures.back
    (subst (λ (t : SeenTrail). IsQuietBelow t.rows t.entries) (sym c.self.view_is) below))

pub returns-clause-quiet : goal.returns-clause-quiet
returns-clause-quiet c = λ below less.
    subst (λ (p : SeenPath). IsQuiet (values_of c.back_to.new.self.entries) p.rows) (sym c.back_to.ensures.same)
    (quiet-back c.self.inside.path.rows c.args.level c.self.inside.path.entries c.back_to.new.self.entries
    c.back_to.ensures.back
    (subst (λ (t : SeenTrail). c.args.level < level_of t.entries) (sym c.self.view_is) less)
    (subst (λ (t : SeenTrail). IsQuietBelow t.rows t.entries) (sym c.self.view_is) below))
