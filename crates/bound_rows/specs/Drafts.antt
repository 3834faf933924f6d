-- Groups that are written one after another.
use Rattle.std.specs.Prelude.{◌≡◌, ℕ, ◌+◌, ◌^◌, ◌<◌, ◌≤◌, List, [], ◌++◌, length, map}
use Rattle.std.specs.List.{All, sum_by}
use Rattle.rows.specs.Rows.{Row}
use Rattle.bound_rows.specs.Softening.{Group, softened_rows}
use Rattle.bound_rows.specs.Bare.{bare_groups}
use Rattle.bound_rows.specs.declared.draft.Draft.{Draft}

-- a group without its rows
abbrev pub stripped : Group → Group
stripped g = record { penalty = g.penalty; units = g.units; rows = [] }

-- how many unit variables, and how many rows, some groups have
abbrev pub units_in : List Group → ℕ
units_in groups = sum_by (λ g. g.units) groups

abbrev pub rows_in : List Group → ℕ
rows_in groups = sum_by (λ g. length g.rows) groups

-- every variable of some rows stands before a number
abbrev pub AreBefore : ℕ → List Row → Type 0
AreBefore next rows = All (λ row. All (λ t. t.lit.var < next) row.terms) rows

-- some groups were added to a draft
pub record Extends (old new : Draft) (groups : List Group) : Type 0 where
  pub rows : new.rows ≡ old.rows ++ softened_rows old.next groups
  pub kept : bare_groups new.groups.items ≡ bare_groups old.groups.items ++ map stripped groups
  pub next : new.next ≡ old.next + units_in groups
  pub count : length new.rows ≡ length old.rows + rows_in groups

-- groups can be added: there are numbers for their units and their rows, and the units stand after all other variables
pub record HasRoom (draft : Draft) (groups : List Group) : Type 0 where
  pub first : 1 ≤ draft.next
  pub units : draft.next + units_in groups ≤ 2147483648
  pub rows : length draft.rows + rows_in groups < 2 ^ 32
  pub known : All (λ g. AreBefore draft.next g.rows) groups
