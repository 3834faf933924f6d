use Rattle.std.proofs.Common.{◌<◌, length, arith, ◌∙◌}
use Rattle.command_solve.proofs.CommentLemmas.{text-more}
use Rattle.command_solve.proofs.comments.add_moves.Goals as goal

pub loop-k-preserved : goal.loop-k-preserved
loop-k-preserved c =
    let within : c.loop-k.k < length c.args.trail.now.list = omega (arith, c.loop-k-test.true, c.len-k-end.ensures) in
    c.in_ok-extend_from_slice.ensures.items
    ∙ text-more c.args.text.now.items c.loop-k.text.items c.as_bytes.result.now c.args.trail.now.list c.loop-k.k
    c.get.result within c.get.ensures (c.as_bytes.ensures.value ∙ c.in_ok-line.ensures) c.loop-k.invariant
