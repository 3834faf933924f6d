use Rattle.decoding.proofs.SeasonLemmas.{accepted_logs_exclude}
use Rattle.decoding.proofs.log_laws.accepted_logs_exclude.Goals as goal

pub returns : goal.returns
returns c = accepted_logs_exclude
