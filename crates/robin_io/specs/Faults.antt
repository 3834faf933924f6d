-- How a store in memory counts a fault.
use Rattle.std.specs.Prelude.{◌≡◌, ◌≢◌, List, ℕ, IsSome, is_some, if◌then◌else◌}
use Rattle.robin_io.specs.Counts.{raised}
use Rattle.robin_io.specs.ShelfView.{ShelfView, contents_in, faults_in}

-- a fault of this name was counted once, and no other file's count changed
pub record CountsFault (name : List ℕ) (old new : ShelfView) : Type 0 where
  pub risen : faults_in new.files new.other_faults name ≡ raised (faults_in old.files old.other_faults name) 1
  pub other_files : (n : List ℕ) → n ≢ name → IsSome (contents_in old.files n)
      → faults_in new.files new.other_faults n ≡ faults_in old.files old.other_faults n
  -- the count that all names without a file share
  pub other_faults : new.other_faults
      ≡ (if is_some (contents_in old.files name) then old.other_faults else raised old.other_faults 1)
