-- Trails: the literals that were made true, in their order, each with its level and its reason.
use Rattle.std.specs.Prelude.{◌≡◌, ℕ, ◌-◌, ◌<◌, ◌≤◌, Bool, true, false, List, [], ◌∷◌, ◌++◌, map, length, take}
use Rattle.std.specs.Prelude.{slice_index_or, slice_get, Option, Some, None, is_none, IfSome}
use Rattle.std.specs.List.{All, count_by}
use Rattle.rows.specs.Literals.{Literal}
use Rattle.rows.specs.Rows.{Row}
use Rattle.rows.specs.Partials.{Forces, IsInConflict, IsQuiet, IsQuietRow, value_of}
use Rattle.rows.specs.Forcing.{all_set}
use Rattle.rows.specs.declared.lit.Term.{Term}
use Rattle.rows.specs.declared.partial.Value.{Value}
use Rattle.rows.specs.declared.partial.Value.TheVariants.{Free}
use Rattle.propagate.specs.declared.entry.Entry.{Entry}
use Rattle.propagate.specs.declared.entry.Conflict.{Conflict}

-- ---- what entries say

-- the values that entries give: each literal of them is true, all else is free
abbrev pub values_of : List Entry → ℕ → Value
values_of entries = all_set (λ v. Free) (map (λ e. e.lit) entries)

abbrev pub is_decision : Entry → Bool
is_decision e = is_none e.reason

-- the level that entries come to: the number of decisions among them
abbrev pub level_of : List Entry → ℕ
level_of entries = count_by is_decision entries

-- What a trail is: its number of variables, its rows, with the added clauses behind them, and its entries.
pub record SeenTrail : Type 0 where
  pub vars : ℕ
  pub rows : List Row
  pub entries : List Entry

-- ---- when a trail is one

-- the row with this number, from 1
pub record IsNumbered (rows : List Row) (number : ℕ) (row : Row) : Type 0 where
  pub from_one : 1 ≤ number
  pub there : slice_get rows (number - 1) ≡ Some row

-- the row with this number forces the literal where these entries alone have a value
pub record IsForcedBy (rows : List Row) (before : List Entry) (lit : Literal) (number : ℕ) : Type 0 where
  pub row : Row
  pub numbered : IsNumbered rows number row
  pub term : Term
  pub literal : term.lit ≡ lit
  pub forces : Forces (values_of before) row term

-- an entry behind these: its variable is known and was free, and its level counts the decisions up to it
pub record IsNew (vars : ℕ) (before : List Entry) (e : Entry) : Type 0 where
  pub from_one : 1 ≤ e.lit.var
  pub known : e.lit.var ≤ vars
  pub free : value_of (values_of before) e.lit ≡ Free
  pub level : e.level ≡ level_of (before ++ e ∷ [])

-- a new entry that is lawful: where it isn't a decision, its reason names a row that forces it
pub record IsLawful (rows : List Row) (vars : ℕ) (before : List Entry) (e : Entry) : Type 0 where
  pub new : IsNew vars before e
  pub reason : IfSome e.reason (IsForcedBy rows before e.lit)

-- each entry is as P says of it and those before it
abbrev pub EachEntry : (List Entry → Entry → Type 0) → List Entry → Type 0
EachEntry P entries = (k : ℕ) (d : Entry) → k < length entries → P (take k entries) (slice_index_or entries k d)

abbrev pub AreLawful : List Row → ℕ → List Entry → Type 0
AreLawful rows vars entries = EachEntry (IsLawful rows vars) entries

-- before each decision the rows were quiet
abbrev pub IsQuietBelow : List Row → List Entry → Type 0
IsQuietBelow rows entries = EachEntry (λ before e. is_decision e ≡ true → IsQuiet (values_of before) rows) entries

-- before each decision the row was quiet
abbrev pub IsQuietRowBelow : Row → List Entry → Type 0
IsQuietRowBelow row entries = EachEntry (λ before e. is_decision e ≡ true → IsQuietRow (values_of before) row) entries

-- the row's variables are at most so many
abbrev pub KnowsVariables : ℕ → Row → Type 0
KnowsVariables vars row = All (λ t. t.lit.var ≤ vars) row.terms

-- ---- what a call does

-- entries with reasons were added
pub record IsGrown (old new : List Entry) : Type 0 where
  pub longer : length old ≤ length new
  pub kept : take (length old) new ≡ old
  pub forced : (k : ℕ) (d : Entry) → length old ≤ k → k < length new → is_decision (slice_index_or new k d) ≡ false

-- the row that is named is in conflict
pub record NamesConflict (rows : List Row) (values : ℕ → Value) (conflict : Conflict) : Type 0 where
  pub row : Row
  pub numbered : IsNumbered rows conflict.row row
  pub conflict_is : IsInConflict values row

-- what propagation comes to: quiet rows, or one in conflict
abbrev pub IsSettled : List Row → (ℕ → Value) → Option Conflict → Type 0
IsSettled rows values None = IsQuiet values rows
IsSettled rows values (Some conflict) = NamesConflict rows values conflict

-- the entries of the levels up to this one, which stand before all others: behind them stands a decision, if anything
pub record IsBackTo (level : ℕ) (old new : List Entry) : Type 0 where
  pub shorter : length new ≤ length old
  pub front : new ≡ take (length new) old
  pub level_is : level_of new ≡ level
  pub next : (d : Entry) → length new < length old → is_decision (slice_index_or old (length new) d) ≡ true
