-- A store of files in memory, as its callers see it.
use Rattle.std.specs.Prelude.{ℕ, List, Option, option_map, find, bytes_eq}
use Rattle.std.specs.Option.{option_map_or}

pub record FileView : Type 0 where
  pub name : List ℕ
  pub bytes : List ℕ
  pub faults : ℕ

pub record ShelfView : Type 0 where
  pub files : List FileView
  -- the name of the started file
  pub started : Option (List ℕ)
  -- the bytes of the started file that are not yet taken
  pub left : Option (List ℕ)
  pub taken : ℕ
  -- the count of faults that all names without a file share
  pub other_faults : ℕ
  -- the numbers of the calls of start and take that are planned to fail
  pub plan : List ℕ
  -- how many of these calls were counted
  pub calls : ℕ

-- the file of a name
abbrev pub file_in : List FileView → List ℕ → Option FileView
file_in files name = find (λ f. bytes_eq f.name name) files

-- the bytes of the file of a name
abbrev pub contents_in : List FileView → List ℕ → Option (List ℕ)
contents_in files name = option_map (λ f. f.bytes) (file_in files name)

-- the count of faults of the file of a name
abbrev pub faults_in : List FileView → ℕ → List ℕ → ℕ
faults_in files others name = option_map_or (λ f. f.faults) (file_in files name) others
