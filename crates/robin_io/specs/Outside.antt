-- The outside, as a run meets it between two moments: a store of files, and a sink.
use Rattle.std.specs.Prelude.{ℕ, List, Option}
use Rattle.robin_io.specs.Counts.{Rose, TookMore}
use Rattle.robin_io.specs.declared.shelf.Shelf as shelf
use Rattle.robin_io.specs.declared.sink.Sink as sink

-- what a store shows
pub record Store : Type 1 where
  -- the bytes of a file, where the store tells them
  pub contents : List ℕ → Option (List ℕ)
  -- the store gave more than so many bytes
  pub took_more : ℕ → Type 0
  -- the store failed at the file of this name
  pub failed : List ℕ → Type 0

abbrev pub store_between : {S : Type 0} → shelf.Ghosts S → S → S → Store
store_between shelf old new = record {
  contents = shelf.contents old;
  took_more = λ limit. TookMore limit (shelf.taken old) (shelf.taken new);
  failed = λ name. Rose (shelf.faults old name) (shelf.faults new name);
}

-- what a sink shows
pub record Output : Type 1 where
  -- the bytes that it holds at first and at last, where the sink tells them
  pub before : Option (List ℕ)
  pub after : Option (List ℕ)
  -- the sink failed
  pub failed : Type 0

abbrev pub output_between : {K : Type 0} → sink.Ghosts K → K → K → Output
output_between sink old new = record {
  before = sink.written old;
  after = sink.written new;
  failed = Rose (sink.faults old) (sink.faults new);
}
