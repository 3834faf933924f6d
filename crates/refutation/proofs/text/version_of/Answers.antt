use Rattle.std.proofs.Common.{◌≡◌, ◌<◌, true, length, refl, arith}
use Rattle.std.specs.List.{list_any}
use Rattle.refutation.specs.Steps.{is_linear}
use Rattle.refutation.proofs.StepLemmas.{list_any-none, list_any-some}
use Rattle.refutation.proofs.text.version_of.Goals as goal

pub returns-then-is_linear : goal.returns-then-is_linear
returns-then-is_linear c =
    let there : c.loop-k.k < length c.args.log.now = omega arith in
    let some : list_any is_linear c.args.log.now ≡ true =
    list_any-some is_linear c.args.log.now c.loop-k.k there c.if-is_linear.ensures in
    rw some refl

pub loop-k-preserved : goal.loop-k-preserved
loop-k-preserved c =
    let there : c.loop-k.k < length c.args.log.now = omega arith in
    list_any-none is_linear c.args.log.now c.loop-k.k there c.loop-k.invariant c.if-is_linear.ensures
