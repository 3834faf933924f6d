use Rattle.std.proofs.Common.{◌≤◌, ◌+◌, ℕ, arith, ap, sym, subst}
use Rattle.std.specs.List.{All}
use Rattle.rows.specs.Cardinality.{at_least}
use Rattle.propagate.specs.Paths.{SeenPath}
use Rattle.propagate.specs.Trails.{IsQuietBelow, IsQuietRowBelow, SeenTrail}
use Rattle.propagate.specs.Looks.{IsTrail}
use Rattle.propagate.specs.Watches.{HasRoomForNodes}
use Rattle.propagate.proofs.EntryLemmas.{quiet_below-add}
use Rattle.propagate.proofs.TrailLemmas.{IsTrail-add, IsTrail-same}
use Rattle.propagate.proofs.trail.Trail.add.Goals as goal

pub reserve-requires-clause-hung : goal.reserve-requires-clause-hung
reserve-requires-clause-hung c = omega (arith, c.self.invariant.watching.nodes.to, c.row_count-count.ensures.len)

pub invariant_of-self : goal.invariant_of-self
invariant_of-self c =
    IsTrail-same c.self.inside.path c.self.inside.watches c.reserve.new.self c.self.inside.looked
    c.reserve.ensures.same c.self.invariant

pub invariant_of-self-in_err-add : goal.invariant_of-self-in_err-add
invariant_of-self-in_err-add c =
    subst (λ (p : SeenPath). IsTrail p c.reserve.new.self c.self.inside.looked) (sym c.in_err-add.ensures.err)
    (IsTrail-same c.self.inside.path c.self.inside.watches c.reserve.new.self c.self.inside.looked
    c.reserve.ensures.same c.self.invariant)

pub invariant_of-self-2 : goal.invariant_of-self-2
invariant_of-self-2 c =
    IsTrail-add c.self.inside.path c.add.new.self c.self.inside.watches c.reserve.new.self c.self.inside.looked
    c.args.clause.now c.self.invariant c.reserve.ensures.same
    (subst (λ (n : ℕ). HasRoomForNodes c.reserve.new.self (n + 1)) c.row_count-count.ensures.len
    c.in_ok-reserve.ensures.room)
    c.in_ok-add.ensures.same c.in_ok-add.ensures.rows
    (subst (λ (t : SeenTrail). All (λ l. l.var ≤ t.vars) c.args.clause.now) (sym c.self.view_is) c.requires.known)
    c.requires.variables

pub returns-clause-below : goal.returns-clause-below
returns-clause-below c = λ quiet calm.
    subst (λ es. IsQuietBelow c.add.new.self.rows es) (sym (ap (λ (p : SeenPath). p.entries) c.in_ok-add.ensures.same))
    (quiet_below-add c.self.inside.path.rows c.add.new.self.rows (at_least 1 c.args.clause.now)
    c.self.inside.path.entries c.in_ok-add.ensures.rows
    (subst (λ (t : SeenTrail). IsQuietBelow t.rows t.entries) (sym c.self.view_is) quiet)
    (subst (λ (t : SeenTrail). IsQuietRowBelow (at_least 1 c.args.clause.now) t.entries) (sym c.self.view_is) calm))
