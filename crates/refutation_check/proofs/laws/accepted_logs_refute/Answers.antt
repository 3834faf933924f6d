use Rattle.refutation_check.proofs.SoundLemmas.{accepted_logs_refute}
use Rattle.refutation_check.proofs.laws.accepted_logs_refute.Goals as goal

pub returns : goal.returns
returns c = accepted_logs_refute
