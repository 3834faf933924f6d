-- Numbers in rows of equal length, in one list, row by row.
use Rattle.std.specs.Prelude.{ℕ, ◌+◌, ◌*◌, nat_lt, if◌then◌else◌, List, slice_index}

-- the number in a row and column, of so many columns: 0 where there is none
abbrev pub number : ℕ → List ℕ → ℕ → ℕ → ℕ
number columns numbers row column = if nat_lt column columns then slice_index numbers (row * columns + column) else 0

-- the number in a row and column of a table of 78 columns, as many as the longest season has slots
abbrev pub entry : List ℕ → ℕ → ℕ → ℕ
entry numbers row column = number 78 numbers row column
