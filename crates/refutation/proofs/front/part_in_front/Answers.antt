use Rattle.refutation.proofs.FrontLemmas.{part-front}
use Rattle.refutation.proofs.front.part_in_front.Goals as goal

pub returns : goal.returns
returns c =
    part-front c.args.bytes.now c.in-Some.factor.1.now c.in-Some-hint_in_front.row.1.now c.in-Some.factor.0
    c.in-Some-hint_in_front.row.0 c.in-Some.ensures c.in-Some-hint_in_front.ensures
