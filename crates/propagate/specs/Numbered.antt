-- Rows by their places.
use Rattle.std.specs.Prelude.{ℕ, [], List, slice_index_or}
use Rattle.rows.specs.Rows.{Row}

-- the row at a place, from 0
abbrev pub row_at : List Row → ℕ → Row
row_at rows k = slice_index_or rows k (record { terms = []; degree = 0 })
