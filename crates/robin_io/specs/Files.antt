-- What the table of a store's files shows, and how other contents change it.
use Rattle.std.specs.Prelude.{◌≡◌, ◌≢◌, ℕ, List, Some, string_bytes}
use Rattle.robin_io.specs.ShelfView.{FileView, contents_in, faults_in}
use Rattle.robin_io.specs.declared.mem_shelf.MemFile.{MemFile}

abbrev pub file_view : MemFile → FileView
file_view f = record { name = string_bytes f.name; bytes = f.bytes.items; faults = f.faults }

-- the name has these contents, and nothing else changed, where all names without a file have the count
pub record Puts (count : ℕ) (name bytes : List ℕ) (old new : List FileView) : Type 0 where
  pub added : contents_in new name ≡ Some bytes
  pub others : (n : List ℕ) → n ≢ name → contents_in new n ≡ contents_in old n
  pub faults : (n : List ℕ) → faults_in new count n ≡ faults_in old count n
