-- What the store shows of its fields.
use Rattle.std.specs.Prelude.{ℕ, List}
use Rattle.page.specs.declared.files.Files.{Files}
use Rattle.page.specs.declared.files.PageShelf.{PageShelf}

-- the files that it was made of
abbrev pub files_of : PageShelf → Files
files_of shelf = shelf.files.now

-- what is left of the started file
abbrev pub left_of : PageShelf → List ℕ
left_of shelf = shelf.left.now

-- how many bytes all takes have given
abbrev pub taken_of : PageShelf → ℕ
taken_of shelf = shelf.taken
