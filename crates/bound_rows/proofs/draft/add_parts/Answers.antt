use Rattle.std.proofs.Common.{◌∷◌, [], drop, ◌+◌, map, take}
use Rattle.bound_rows.specs.BoundRows.{group_of}
use Rattle.bound_rows.proofs.DraftLemmas.{extends-as, extends-both, extends-none, parts-more, parts-split, room-between}
use Rattle.bound_rows.proofs.draft.add_parts.Goals as goal

pub loop-part-init : goal.loop-part-init
loop-part-init c = extends-none c.args.draft.now

pub add_part-requires-clause-room : goal.add_part-requires-clause-room
add_part-requires-clause-room c =
    let f = group_of c.args.season.now c.args.penalty in
    let all = c.args.parts.now in
    let k = c.loop-part.part-index in
    let x = c.part-item.result in
    room-between c.args.draft.now c.loop-part.draft (map f all) (map f (take k all)) (f x ∷ [])
    (map f (drop (k + 1) all)) (parts-split f all k x c.loop-part-test.true c.part-item.is) c.requires.room
    c.loop-part.invariant

pub loop-part-preserved : goal.loop-part-preserved
loop-part-preserved c =
    let f = group_of c.args.season.now c.args.penalty in
    let all = c.args.parts.now in
    let k = c.loop-part.part-index in
    let x = c.part-item.result in
    extends-as c.args.draft.now _ _ _ (parts-more f all k x c.loop-part-test.true c.part-item.is)
    (extends-both c.args.draft.now c.loop-part.draft _ (map f (take k all)) (f x ∷ []) c.loop-part.invariant
    c.in_ok-add_part.ensures)
