-- A run over files that lie in memory, and what holds of it.
use Rattle.std.specs.Prelude.{◌≡◌, ◌≢◌, ℕ, List, [], Some, None}
use Rattle.std.specs.Io.KnownBytes.{Keeps}
use Rattle.robin_io.specs.Outside.{output_between, store_between}
use Rattle.robin_io.specs.declared.shelf.Shelf as shelf
use Rattle.robin_io.specs.declared.sink.Sink as sink
use Rattle.command_line.specs.Words.{reading}
use Rattle.answers.specs.declared.status.Status.{Status}
use Rattle.answers.specs.declared.status.Status.TheVariants.{Memory}
use Rattle.page.specs.Files.{file_named}
use Rattle.page.specs.declared.files.Files.{Files}
use Rattle.robin_run.specs.Commands.{KeepsPromises}
use Rattle.robin_run.specs.Ends.{EndsByWords}
use Rattle.robin_run.specs.Run.{Answered, NothingFails, Run, step_room}

-- a store of these files, seen by how many bytes it gave: it tells each file, and fails at none
abbrev pub files_told : Files → shelf.Ghosts ℕ
files_told files = record {
  contents = λ taken name. Some (file_named files name);
  started = λ taken name. Unit {0};
  left = λ taken. None;
  taken = λ taken. taken;
  faults = λ taken name. 0;
  calls = λ taken. 0;
}

-- a sink, seen by the text that it holds and by how often it failed
abbrev pub text_told : sink.Ghosts (List ℕ × ℕ)
text_told = record {
  written = λ held. Some held.0;
  faults = λ held. held.1;
  calls = λ held. 0;
}

-- A run of these words over these files, where the store gave so many bytes. The sink held nothing at first, and failed so
-- often. Nothing may stop the run.
abbrev pub run_over : List (List ℕ) → Files → ℕ → List ℕ → ℕ → Status → Run
run_over words files taken text faults ended = record {
  command = reading words;
  room = step_room words;
  may_stop = ⊥;
  store = store_between (files_told files) 0 taken;
  output = output_between text_told ([], 0) (text, faults);
  puts = 0;
  ended = ended;
}

-- what `run` promises of a run
pub record IsPromised (run : Run) : Type 0 where
  pub answered : Answered run
  pub ends : EndsByWords run
  pub commands : KeepsPromises run
  -- Where memory ran out nothing was written.
  pub memory : run.ended ≡ Memory → Keeps run.output.before run.output.after

-- A run of these words over these files put this text into its sink, which failed so often, and ended so.
pub record Ran (words : List (List ℕ)) (files : Files) (text : List ℕ) (faults : ℕ) (ended : Status) : Type 0 where
  -- how many bytes of the files were taken
  pub taken : ℕ
  pub promised : IsPromised (run_over words files taken text faults ended)
  -- Unless memory ran out, nothing failed.
  pub works : ended ≢ Memory → faults ≡ 0 → (names : List (List ℕ)) → NothingFails (run_over words files taken text faults ended) names
