use Rattle.refutation.proofs.FrontLemmas.{positive-front}
use Rattle.refutation.proofs.front.literal_in_front.Goals as goal

pub returns-in_default : goal.returns-in_default
returns-in_default c =
    positive-front c.args.bytes.now c.variable_in_front-in_default.result c.variable_in_front-in_default.ensures
