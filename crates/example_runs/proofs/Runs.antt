-- Runs of which an example knows how they ended and what they wrote. Nothing may stop them.
use Rattle.std.specs.Prelude.{ℕ, List, Option, None}
use Rattle.robin_io.specs.Outside.{Output, Store}
use Rattle.answers.specs.declared.status.Status.{Status}
use Rattle.robin_run.specs.Run.{Run}

abbrev pub written_between : Option (List ℕ) → Option (List ℕ) → Output
written_between before after = record { before = before; after = after; failed = ⊥ }

abbrev pub no_store : Store
no_store = record { contents = λ name. None; took_more = λ limit. ⊥; failed = λ name. ⊥ }

abbrev pub ended_with : Status → Option (List ℕ) → Option (List ℕ) → Run
ended_with ended before after =
    record {
      command = None;
      room = None;
      may_stop = ⊥;
      store = no_store;
      output = written_between before after;
      puts = 0;
      ended = ended;
    }

-- a store whose files have these contents, and that fails at those of these names
abbrev pub store_of : (List ℕ → Option (List ℕ)) → (List ℕ → Type 0) → Store
store_of contents failed = record { contents = contents; took_more = λ limit. ⊥; failed = failed }
