-- What of a conflict's text reads back.
use Rattle.std.specs.Prelude.{◌≡◌, ℕ, List, Option, Ok}
use Rattle.std.specs.Io.KnownBytes.{Appends}
use Rattle.std.specs.List.{All, AllZip}
use Rattle.robin_io.specs.Outside.{Output}
use Rattle.league.specs.Instance.{Instance}
use Rattle.explain.specs.Parts.{part_of}
use Rattle.encoding.specs.Encoding.{rows_of}
use Rattle.encoding.specs.Variables.{var_count}
use Rattle.refutation.specs.Logs.{log_of}
use Rattle.refutation.specs.Steps.{Step}
use Rattle.refutation.specs.Texts.{log_text}
use Rattle.refutation.specs.Verdict.{verdict_of}
use Rattle.refutation.specs.declared.verdict.Verdict.TheVariants.{Accepted}
use Rattle.explain.specs.Conflicts.{IsCase}
use Rattle.explain.specs.declared.cases.Case.{Case}
use Rattle.command_explain.specs.Texts.{ReadsBack, conflict_text}

-- Behind the numbers of some hard constraints stand a log and a case for each. The log reads back, and is accepted over
-- the rows of the league of these constraints alone. Each case reads back: a season of the league of the others, or a log
-- that leaves that league open: it is spent over its rows, or, only where the run may be stopped, has no step.
pub record IsReadable (league : Instance) (conflicts : Option ℕ) (may_stop : Type 0) (output : Output) : Type 0 where
  pub members : List ℕ
  pub log : List Step
  pub cases : List Case
  pub written : Appends output.before output.after (conflict_text members log cases)
  pub log_reads_back : log_of (log_text log) ≡ Ok log
  pub accepted : verdict_of (rows_of (part_of league members)) (var_count (part_of league members)) log ≡ Accepted
  pub each : AllZip (IsCase league conflicts may_stop members) members cases
  pub cases_read_back : All (ReadsBack league.n) cases
