use Rattle.refutation_check.proofs.VerdictLemmas.{steps_give_verdict}
use Rattle.refutation_check.proofs.laws.steps_give_verdict.Goals as goal

pub returns : goal.returns
returns c = steps_give_verdict
