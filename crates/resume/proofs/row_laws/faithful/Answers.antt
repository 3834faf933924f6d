use Rattle.resume.proofs.Faithful.{accepted_logs_exclude, resume_rows-faithful, resumption-from_rows}
use Rattle.resume.proofs.Faithful.{rows-from_resumption}
use Rattle.resume.proofs.SizeLemmas.{have_size}
use Rattle.resume.proofs.row_laws.faithful.Goals as goal

pub returns-clause-faithful : goal.returns-clause-faithful
returns-clause-faithful c = resume_rows-faithful

pub returns-clause-answers : goal.returns-clause-answers
returns-clause-answers c = resumption-from_rows

pub returns-clause-shadows : goal.returns-clause-shadows
returns-clause-shadows c = rows-from_resumption

pub returns-clause-logs : goal.returns-clause-logs
returns-clause-logs c = accepted_logs_exclude

pub returns-clause-size : goal.returns-clause-size
returns-clause-size c = have_size
