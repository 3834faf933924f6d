-- Each law is a theorem about the definitions.
use Rattle.decoding.proofs.Faithful.{accepted-from_rows, decoded-shadow, rows-from_accepted, shadow-decoded}
use Rattle.decoding.proofs.Faithful.{shadow-from_accepted}
use Rattle.decoding.proofs.laws.faithful.Goals as goal

pub returns-clause-shadows : goal.returns-clause-shadows
returns-clause-shadows c = rows-from_accepted

pub returns-clause-each : goal.returns-clause-each
returns-clause-each c = shadow-from_accepted

pub returns-clause-answers : goal.returns-clause-answers
returns-clause-answers c = accepted-from_rows

pub returns-clause-decoded : goal.returns-clause-decoded
returns-clause-decoded c = decoded-shadow

pub returns-clause-back : goal.returns-clause-back
returns-clause-back c = shadow-decoded
