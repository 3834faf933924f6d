-- What `--help` and `--version` promise: their pages.
use Rattle.std.specs.Prelude.{◌≡◌, [], Option, Some}
use Rattle.command_line.specs.Words.{Command}
use Rattle.command_line.specs.declared.topic.Topic.{Topic}
use Rattle.answers.specs.Help.{help_answer, version_answer}
use Rattle.robin_run.specs.Run.{NothingFails, Run, Writes}

pub record Promise (run : Run) (topic : Option Topic) : Type 0 where
  -- The page on a command, or on all of them, is written, where nothing fails.
  pub helped : NothingFails run [] → Writes run (λ answer. answer ≡ help_answer topic)

-- each run of `--help` keeps it
abbrev pub Helps : Run → Type 0
Helps run = (topic : Option Topic) → run.command ≡ Some (Command.Help topic) → Promise run topic

-- each run of `--version` writes the name of the program and its version, where nothing fails
abbrev pub TellsVersion : Run → Type 0
TellsVersion run =
    run.command ≡ Some Command.Version → NothingFails run [] → Writes run (λ answer. answer ≡ version_answer)
