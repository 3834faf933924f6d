use Rattle.std.proofs.Common.{◌^◌, ◌<◌, arith}
use Rattle.refutation_check.proofs.RoomLemmas.{has_wide_more}
use Rattle.refutation_check.proofs.kept.have_32_bits.Goals as goal

pub loop-term-preserved : goal.loop-term-preserved
loop-term-preserved c =
    let t = c.term-item.result in
    let narrow : t.coef < 2 ^ 32 = omega (arith, c.bounded-coef.ensures.same, c.bounded-coef.ensures.bound) in
    has_wide_more c.args.terms.now c.loop-term.term-index t c.loop-term-test.true c.term-item.is c.loop-term.invariant narrow
