-- A log that is accepted over a league's rows excludes every schedule: an accepted one would have a shadow.
use Rattle.league.specs.Counts.{counts_of}
use Rattle.encoding.specs.Encoding.{rows_of}
use Rattle.encoding.specs.Variables.{var_count}
use Rattle.decoding.proofs.Faithful.{shadow-from_accepted}
use Rattle.refutation_check.proofs.SoundLemmas.{accepted_logs_refute}
use Rattle.decoding.specs.Excluded.{AcceptedLogsExclude}

pub accepted_logs_exclude : AcceptedLogsExclude
accepted_logs_exclude league steps instance accepted games good =
    let found = shadow-from_accepted league (counts_of games) instance good in
    accepted_logs_refute (rows_of league) (var_count league) steps accepted found.0 found.2
