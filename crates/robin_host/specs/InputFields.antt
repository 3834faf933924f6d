-- What a store with standard input shows of its fields.
use Rattle.std.specs.Prelude.{ℕ, Bool}
use Rattle.robin_host.specs.declared.input.InputShelf.{InputShelf}

-- the store of files
abbrev pub files_of : {S I : Type 0} → InputShelf S I → S
files_of shelf = shelf.files

-- the reader of standard input
abbrev pub input_of : {S I : Type 0} → InputShelf S I → I
input_of shelf = shelf.input

-- what is taken next comes from standard input
abbrev pub is_at_input : {S I : Type 0} → InputShelf S I → Bool
is_at_input shelf = shelf.at_input

-- how many bytes all takes have given
abbrev pub shelf_taken : {S I : Type 0} → InputShelf S I → ℕ
shelf_taken shelf = shelf.taken

-- how often a take or a start has failed
abbrev pub shelf_failed : {S I : Type 0} → InputShelf S I → ℕ
shelf_failed shelf = shelf.faults
