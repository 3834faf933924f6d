use Rattle.refutation.proofs.FrontLemmas.{linear-front}
use Rattle.refutation.proofs.front.linear_in_front.Goals as goal

pub returns : goal.returns
returns c =
    linear-front c.args.bytes.now c.in-Some.text.now c.in-Some-parts_in_front.zero.now c.in-Some-behind.second.now
    c.in-Some-number_before.found.1.now c.in-Some-number_before.found.0 c.args.parts.now.items
    c.parts_in_front.new.parts.items c.in-Some.ensures c.in-Some-parts_in_front.ensures c.in-Some-behind.ensures
    c.in-Some-number_before.ensures c.if-bytes-found.false
