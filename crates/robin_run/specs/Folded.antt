-- What becomes of what a command gave: an answer is written, or memory or room was wanting. And how often the sink is
-- called then.
use Rattle.std.specs.Prelude.{◌≡◌, ℕ, length, Result, Ok, Err}
use Rattle.std.specs.Io.KnownBytes.{Keeps}
use Rattle.robin_io.specs.Outside.{Output}
use Rattle.answers.specs.SeenReply.{answer_of}
use Rattle.answers.specs.Stages.{IsWritten}
use Rattle.answers.specs.declared.reply.NoValue.{NoValue}
use Rattle.answers.specs.declared.reply.NoValue.TheVariants as without
use Rattle.answers.specs.declared.status.Status.{Status}
use Rattle.robin_run.specs.Givens.{given_answer}
use Rattle.robin_run.specs.declared.given.Given.{Given}
use Rattle.answers.specs.declared.status.Status.TheVariants.{Memory}

abbrev pub IsFolded : Result Given NoValue → Status → Output → Type 0
IsFolded (Ok given) ended output = IsWritten (given_answer given) ended output
IsFolded (Err (without.Refused refusal)) ended output = IsWritten (answer_of refusal.reply) ended output
IsFolded (Err without.Memory) ended output = (ended ≡ Memory) × Keeps output.before output.after
IsFolded (Err without.Room) ended output = (ended ≡ Memory) × Keeps output.before output.after

-- the most calls of the sink: as many as the text of the answer has bytes, and none where memory or room
-- was wanting
abbrev pub most_puts : Result Given NoValue → ℕ
most_puts (Ok given) = length (given_answer given).text
most_puts (Err (without.Refused refusal)) = length (answer_of refusal.reply).text
most_puts (Err without.Memory) = 0
most_puts (Err without.Room) = 0
