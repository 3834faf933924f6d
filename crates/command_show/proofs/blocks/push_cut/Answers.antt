use Rattle.std.proofs.Common.{◌≡◌, ◌*◌, ap, ◌∙◌, arith}
use Rattle.command_show.specs.Blocks.{parts_of}
use Rattle.command_show.proofs.BlockLemmas.{block_added, block_begins}
use Rattle.command_show.proofs.blocks.push_cut.Goals as goal

pub overflow_sub-left : goal.overflow_sub-left
overflow_sub-left c =
    let slots = c.args.slots in
    let room = c.args.room in
    let place = c.loop-place.place in
    let width : c.parts_of-width.result ≡ parts_of slots (parts_of slots room) = c.parts_of-width.ensures ∙ ap (parts_of slots) c.parts_of-count.ensures in
    omega (arith, ap (λ w. place * w) width, block_begins slots room place c.requires.some c.requires.room (omega (arith, c.parts_of-count.ensures, c.loop-place-test.true)))

pub loop-place-preserved : goal.loop-place-preserved
loop-place-preserved c =
    block_added c.args.first c.args.slots c.parts_of-width.result c.loop-place.place c.args.found.now.items c.loop-place.found.items _ _
    c.loop-place.invariant c.in_ok-push.ensures.items (cc)
