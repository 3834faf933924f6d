use Rattle.refutation.proofs.FrontLemmas.{variable-front}
use Rattle.refutation.proofs.front.variable_in_front.Goals as goal

pub returns : goal.returns
returns c =
    variable-front c.args.bytes.now c.in-Some.found.1.now c.in-Some.found.0 c.args.positive c.new.result
    c.in-Some.ensures c.if-found-gt-MOST_VARIABLES.false c.new.ensures
