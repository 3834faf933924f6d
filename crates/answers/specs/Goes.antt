-- Where the text of a run goes, by its command and by how it ends.
use Rattle.std.specs.Prelude.{Bool, true, false, if◌then◌else◌, Option, Some, None}
use Rattle.answers.specs.declared.status.Status.{Status}
use Rattle.answers.specs.declared.status.Status.TheVariants.{Yes, No, Words, File, Refuted, Spent, ReadFault}
use Rattle.answers.specs.declared.status.Status.TheVariants.{WriteFault, Memory, Better}
use Rattle.command_line.specs.declared.topic.Topic.{Topic}
use Rattle.command_line.specs.declared.topic.Topic.TheVariants.{Validate, Show, Solve, Patterns, Explain, Part, Check}
use Rattle.command_line.specs.declared.topic.Topic.TheVariants.{Prove, Bound, Resume, Audit, Rows, Values, Circle, Make}
use Rattle.command_line.specs.declared.topic.Topic.TheVariants.{Trial}
use Rattle.answers.specs.declared.goes.Goes.{Goes}
use Rattle.answers.specs.declared.goes.Goes.TheVariants.{Out, Log, Shown, Nowhere}

-- whether a command judges what it is given, so that no is an answer as good as yes
abbrev pub judges : Option Topic → Bool
judges None = false
judges (Some Validate) = true
judges (Some Show) = true
judges (Some Solve) = false
judges (Some Patterns) = false
judges (Some Explain) = false
judges (Some Part) = false
judges (Some Check) = true
judges (Some Prove) = false
judges (Some Bound) = true
judges (Some Resume) = false
judges (Some Audit) = true
judges (Some Rows) = false
judges (Some Values) = false
judges (Some Circle) = false
judges (Some Make) = false
judges (Some Trial) = false

-- where the log goes that refutes: to the answers of `explain`, which asks for it
abbrev pub refuted_goes : Option Topic → Goes
refuted_goes None = Log
refuted_goes (Some Validate) = Log
refuted_goes (Some Show) = Log
refuted_goes (Some Solve) = Log
refuted_goes (Some Patterns) = Log
refuted_goes (Some Explain) = Out
refuted_goes (Some Part) = Log
refuted_goes (Some Check) = Log
refuted_goes (Some Prove) = Log
refuted_goes (Some Bound) = Log
refuted_goes (Some Resume) = Log
refuted_goes (Some Audit) = Log
refuted_goes (Some Rows) = Log
refuted_goes (Some Values) = Log
refuted_goes (Some Circle) = Log
refuted_goes (Some Make) = Log
refuted_goes (Some Trial) = Log

-- what was asked for goes into the file of `--out`, a log of a search that found nothing into that of `--log`, and any
-- other text that is whole to standard output
abbrev pub goes_to : Option Topic → Status → Goes
goes_to command Yes = Out
goes_to command No = if judges command then Out else Shown
goes_to command Words = Shown
goes_to command File = Shown
goes_to command Refuted = refuted_goes command
goes_to command Spent = Log
goes_to command ReadFault = Shown
goes_to command WriteFault = Nowhere
goes_to command Memory = Nowhere
goes_to command Better = Out
