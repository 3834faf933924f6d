-- What the new files beside a file are called.
use Rattle.std.specs.Prelude.{◌≡◌, ℕ, List, ◌++◌, codes, decimal}

-- the name of the file, and behind it an ending with a number, the least from 0 that no file has
abbrev pub draft_name : List ℕ → ℕ → List ℕ
draft_name file number = file ++ (codes ".robin-" ++ decimal number)

-- a name is one of these
abbrev pub IsDraftOf : List ℕ → List ℕ → Type 0
IsDraftOf file name = (number : ℕ) × (name ≡ draft_name file number)
