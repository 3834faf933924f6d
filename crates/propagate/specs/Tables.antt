-- How the reaches of rows are kept.
use Rattle.std.specs.Prelude.{◌≡◌, ℕ, ◌+◌, ◌*◌, ◌^◌, ◌<◌, ◌≤◌, List, length, slice_index_or}
use Rattle.std.specs.List.{All}
use Rattle.rows.specs.Rows.{IsRow, Row}
use Rattle.rows.specs.Partials.{reach}
use Rattle.rows.specs.Values.{valued}
use Rattle.rows.specs.declared.partial.Value.{Value}
use Rattle.rows.specs.declared.partial.Value.TheVariants.{Free}
use Rattle.propagate.specs.declared.table.Table.{Table}
use Rattle.propagate.specs.Links.{AreLinked}
use Rattle.propagate.specs.Numbered.{row_at}
use Rattle.propagate.specs.Trails.{KnowsVariables}

-- with such a reach or more a row is neither in conflict nor forces a literal
abbrev pub IsEnough : Row → ℕ → Type 0
IsEnough row enough = (reached : ℕ) → enough ≤ reached → reached + 1 < 2 ^ 64
    → (row.degree ≤ reached) × All (λ t. row.degree + t.coef ≤ reached) row.terms

-- the first n rows are linked, and their reaches are those under the values
pub record AreCounted (rows : List Row) (n : ℕ) (values : ℕ → Value) (table : Table) : Type 0 where
  pub linked : AreLinked rows n table.lists
  pub reach_length : length table.reach.items ≡ n
  pub enough_length : length table.enough.items ≡ n
  pub reached : (k : ℕ) → k < n → slice_index_or table.reach.items k 0 ≡ reach values (row_at rows k).terms
  pub enough : (k : ℕ) → k < n → IsEnough (row_at rows k) (slice_index_or table.enough.items k 0)
  pub fits : (k : ℕ) → k < n → reach (λ v. Free) (row_at rows k).terms + 1 < 2 ^ 64

-- all rows are counted under these values
pub record IsCounted (rows : List Row) (values : List Value) (table : Table) : Type 0 where
  pub few : length values < 2 ^ 32
  pub proper : All IsRow rows
  pub known : All (KnowsVariables (length values)) rows
  pub slots : length table.lists ≡ 2 * length values + 2
  pub counted : AreCounted rows (length rows) (valued values) table
