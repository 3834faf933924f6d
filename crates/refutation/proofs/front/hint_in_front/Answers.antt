use Rattle.refutation.proofs.FrontLemmas.{hint-front}
use Rattle.refutation.proofs.front.hint_in_front.Goals as goal

pub returns : goal.returns
returns c = hint-front c.args.bytes.now c.number_before.result c.number_before.ensures
