-- Lists of values, of variables 1, 2 and so on, as assignments. A variable past the list is free, or false.
use Rattle.std.specs.Prelude.{ℕ, zero, suc, ◌-◌, Bool, false, List, slice_index_or}
use Rattle.rows.specs.declared.partial.Value.{Value}
use Rattle.rows.specs.declared.partial.Value.TheVariants.{Free}

abbrev pub Values : Type 0
Values = List Value

-- the value of a variable: none has the number 0
abbrev pub valued : List Value → ℕ → Value
valued values zero = Free
valued values (suc v) = slice_index_or values v Free

-- whether a variable is true
abbrev pub assigned : List Bool → ℕ → Bool
assigned values v = slice_index_or values (v - 1) false
