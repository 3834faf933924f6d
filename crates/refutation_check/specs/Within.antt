-- Rows over the variables up to a number.
use Rattle.std.specs.Prelude.{ℕ, ◌≤◌, List}
use Rattle.std.specs.List.{All}
use Rattle.rows.specs.Rows.{Row}

-- every variable of the row is at most this
abbrev pub IsWithin : ℕ → Row → Type 0
IsWithin vars row = All (λ t. t.lit.var ≤ vars) row.terms

-- every variable of each of the rows is at most this
abbrev pub AreWithin : ℕ → List Row → Type 0
AreWithin vars rows = All (IsWithin vars) rows
