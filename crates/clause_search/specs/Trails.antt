-- The places of a trail.
use Rattle.std.specs.Prelude.{ℕ, true, List, Option, Some, None, slice_index_or, take}
use Rattle.rows.specs.Literals.{Literal}
use Rattle.rows.specs.declared.partial.Value.{Value}
use Rattle.propagate.specs.Trails.{values_of}
use Rattle.propagate.specs.declared.entry.Entry.{Entry}

abbrev pub no_entry : Entry
no_entry = record { lit = record { var = 0; positive = true }; level = 0; reason = None }

-- the entry at a place, from 0
abbrev pub entry_at : List Entry → ℕ → Entry
entry_at entries k = slice_index_or entries k no_entry

abbrev pub lit_at : List Entry → ℕ → Literal
lit_at entries k = (entry_at entries k).lit

-- the number of the row that forced it, or 0
abbrev pub number_of : Option ℕ → ℕ
number_of None = 0
number_of (Some number) = number

abbrev pub reason_at : List Entry → ℕ → ℕ
reason_at entries k = number_of (entry_at entries k).reason

-- the values before a place
abbrev pub before : List Entry → ℕ → ℕ → Value
before entries k = values_of (take k entries)
