use Rattle.refutation.proofs.FrontLemmas.{clause-front}
use Rattle.refutation.proofs.front.clause_in_front.Goals as goal

pub returns : goal.returns
returns c =
    clause-front c.args.version c.args.bytes.now c.in-Some.text.now c.in-Some-literals_in_front.zero.now
    c.in-Some-behind.second.now c.in-Some-hints_in_front.end.now c.in-Some-behind-2.left.now c.args.literals.now.items
    c.literals_in_front.new.literals.items c.args.hints.now.items c.hints_in_front.new.hints.items c.in-Some.ensures
    c.in-Some-literals_in_front.ensures c.in-Some-behind.ensures c.in-Some-hints_in_front.ensures
    c.in-Some-behind-2.ensures c.if-bytes-left.false
