-- One run of the program, as the caller of `run` sees it, and what all commands promise of a run.
use Rattle.std.specs.Prelude.{◌≢◌, ◌≡◌, ℕ, ◌*◌, ◌-◌, ◌≤◌, List, length, Option, String, map, option_map, string_bytes}
use Rattle.std.specs.Io.KnownBytes.{Appends}
use Rattle.robin_io.specs.Outside.{Output, Store, output_between, store_between}
use Rattle.robin_io.specs.declared.shelf.Shelf as shelf
use Rattle.robin_io.specs.declared.sink.Sink as sink
use Rattle.command_line.specs.Words.{Command, reading, room_limit}
use Rattle.answers.specs.Reply.{Answer}
use Rattle.answers.specs.Stages.{IsWritten, NoneFails, Outcome}
use Rattle.answers.specs.declared.status.Status.{Status}
use Rattle.answers.specs.declared.status.Status.TheVariants.{Memory}
use Rattle.robin_run.specs.Answer.{IsAnswer}

pub record Run : Type 1 where
  -- the command that the words of the command line are, if they are one
  pub command : Option Command
  -- how many bytes the steps of a log may take: where the words don't say it, there is no such limit
  pub room : Option ℕ
  -- it may be stopped before its budgets are spent
  pub may_stop : Type 0
  -- the store of files, from the beginning of the run to its end
  pub store : Store
  -- the sink to which the text goes
  pub output : Output
  -- how many calls of the sink were counted: a sink may count none
  pub puts : ℕ
  -- how the run ended
  pub ended : Status

-- so many bytes as the words say in megabytes
abbrev pub step_room : List (List ℕ) → Option ℕ
step_room words = option_map (λ n. n * 1000000) (room_limit words)

abbrev pub run_of : {S K Z : Type 0} → shelf.Ghosts S → sink.Ghosts K → List (String Z) → Type 0 → S → S → K → K → Status
    → Run
run_of shelf sink words may_stop store_old store_new sink_old sink_new ended = record {
  command = reading (map string_bytes words);
  room = step_room (map string_bytes words);
  may_stop = may_stop;
  store = store_between shelf store_old store_new;
  output = output_between sink sink_old sink_new;
  puts = sink.calls sink_new - sink.calls sink_old;
  ended = ended;
}

-- Unless memory ran out, an answer to the words over the files is written: whole, or cut by a fault of the sink. The sink
-- is called at most once for each byte of its text.
abbrev pub Answered : Run → Type 0
Answered run =
    run.ended ≢ Memory
    → (answer : Answer) × IsAnswer run.may_stop run.room run.command run.store answer × IsWritten answer run.ended run.output
    × (run.puts ≤ length answer.text)

-- Nothing fails: memory doesn't run out, the sink takes every byte, and the store fails at none of these files.
pub record NothingFails (run : Run) (files : List (List ℕ)) : Type 0 where
  pub memory : run.ended ≢ Memory
  pub sink : run.output.failed → ⊥
  pub store : NoneFails run.store files

-- an answer of this kind is written whole, and the run ends with its status
pub record Writes (run : Run) (kind : Outcome) : Type 0 where
  pub answer : Answer
  pub of_kind : kind answer
  pub ended : run.ended ≡ answer.status
  pub written : Appends run.output.before run.output.after answer.text
