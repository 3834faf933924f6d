-- Rows over the variables that there are.
use Rattle.std.specs.Prelude.{ℕ, ◌≤◌, List}
use Rattle.std.specs.List.{All}
use Rattle.rows.specs.Rows.{Row}

-- every variable of the row is from 1 to vars
abbrev pub IsKnown : ℕ → Row → Type 0
IsKnown vars row = All (λ t. (1 ≤ t.lit.var) × (t.lit.var ≤ vars)) row.terms

-- every variable of each of the rows is from 1 to vars
abbrev pub AreKnown : ℕ → List Row → Type 0
AreKnown vars rows = All (IsKnown vars) rows
