use Rattle.std.proofs.Common.{◌∷◌, [], drop, ◌+◌, take}
use Rattle.bound_rows.specs.BoundRows.{groups_of}
use Rattle.bound_rows.proofs.DraftLemmas.{constraints-more, constraints-split, extends-as, extends-both, extends-none}
use Rattle.bound_rows.proofs.DraftLemmas.{room-between}
use Rattle.bound_rows.proofs.draft.add_paid.Goals as goal

pub loop-constraint-init : goal.loop-constraint-init
loop-constraint-init c = extends-none c.args.draft.now

pub add_if_paid-requires-clause-room : goal.add_if_paid-requires-clause-room
add_if_paid-requires-clause-room c =
    let n = c.args.season.now in
    let all = c.args.constraints.now in
    let k = c.loop-constraint.constraint-index in
    let x = c.constraint-item.result in
    room-between c.args.draft.now c.loop-constraint.draft (groups_of n all) (groups_of n (take k all))
    (groups_of n (x ∷ [])) (groups_of n (drop (k + 1) all))
    (constraints-split n all k x c.loop-constraint-test.true c.constraint-item.is) c.requires.room
    c.loop-constraint.invariant

pub loop-constraint-preserved : goal.loop-constraint-preserved
loop-constraint-preserved c =
    let n = c.args.season.now in
    let all = c.args.constraints.now in
    let k = c.loop-constraint.constraint-index in
    let x = c.constraint-item.result in
    extends-as c.args.draft.now _ _ _
    (constraints-more n all k x c.loop-constraint-test.true c.constraint-item.is)
    (extends-both c.args.draft.now c.loop-constraint.draft _ (groups_of n (take k all)) (groups_of n (x ∷ []))
    c.loop-constraint.invariant c.in_ok-add_if_paid.ensures)
