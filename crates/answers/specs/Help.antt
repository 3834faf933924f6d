-- What `--help` and `--version` answer: the pages that the code has as constants.
use Rattle.std.specs.Prelude.{ℕ, List, Option, None, Some}
use Rattle.command_line.specs.declared.topic.Topic.{Topic}
use Rattle.command_line.specs.declared.topic.Topic.TheVariants.{Validate, Show, Solve, Patterns, Explain, Part}
use Rattle.command_line.specs.declared.topic.Topic.TheVariants.{Check, Prove, Bound, Resume, Audit, Rows, Values, Circle, Make}
use Rattle.command_line.specs.declared.topic.Topic.TheVariants.{Trial}
use Rattle.answers.specs.Reply.{Answer}
use Rattle.answers.specs.declared.status.Status.TheVariants.{Yes}
use Rattle.answers.specs.declared.pages.TheConstants as page

-- the page on a command, or on all of them
abbrev pub help_text : Option Topic → List ℕ
help_text None = page.ALL.now
help_text (Some Validate) = page.VALIDATE.now
help_text (Some Show) = page.SHOW.now
help_text (Some Solve) = page.SOLVE.now
help_text (Some Patterns) = page.PATTERNS.now
help_text (Some Explain) = page.EXPLAIN.now
help_text (Some Part) = page.PART.now
help_text (Some Check) = page.CHECK.now
help_text (Some Prove) = page.PROVE.now
help_text (Some Bound) = page.BOUND.now
help_text (Some Resume) = page.RESUME.now
help_text (Some Audit) = page.AUDIT.now
help_text (Some Rows) = page.ROWS.now
help_text (Some Values) = page.VALUES.now
help_text (Some Circle) = page.CIRCLE.now
help_text (Some Make) = page.MAKE.now
help_text (Some Trial) = page.TRIAL.now

-- help is an answer like others
abbrev pub help_answer : Option Topic → Answer
help_answer topic = record { status = Yes; text = help_text topic }

-- the name of the program and its version
abbrev pub version_answer : Answer
version_answer = record { status = Yes; text = page.VERSION.now }
