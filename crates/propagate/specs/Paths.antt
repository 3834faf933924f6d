-- How a trail keeps its literals.
use Rattle.std.specs.Prelude.{◌≡◌, ◌≢◌, ℕ, ◌-◌, ◌≤◌, ◌<◌, ◌^◌, List, length, slice_index_or, if◌then◌else◌}
use Rattle.std.specs.List.{sum_by}
use Rattle.rows.specs.Rows.{Row}
use Rattle.rows.specs.Partials.{is_free}
use Rattle.rows.specs.Values.{valued}
use Rattle.rows.specs.declared.partial.Value.{Value}
use Rattle.rows.specs.declared.partial.Value.TheVariants.{Free}
use Rattle.propagate.specs.declared.entry.Entry.{Entry}
use Rattle.propagate.specs.declared.link.Link.{Link}
use Rattle.propagate.specs.Trails.{EachEntry, IsNew, values_of}

-- the number of variables, the number of rows that were given, the rows with the added clauses behind them, how the
-- rows are found in which a literal stands, and the entries
pub record SeenPath : Type 0 where
  pub vars : ℕ
  pub given : ℕ
  pub rows : List Row
  pub lists : List (List Link)
  pub entries : List Entry

-- 1 for a value, 0 where a variable is free
abbrev pub one_if_set : Value → ℕ
one_if_set v = if is_free v then 0 else 1

-- how many variables have a value
abbrev pub set_count : List Value → ℕ
set_count values = sum_by one_if_set values

-- the table has the values that the entries give, and there is room for an entry for each variable
pub record AreKept (values : List Value) (entries : List Entry) (capacity : ℕ) : Type 0 where
  pub few : length values < 2 ^ 32
  pub same : valued values ≡ values_of entries
  pub count : set_count values ≡ length entries
  pub room : length values ≤ capacity
  pub each : EachEntry (IsNew (length values)) entries

-- the place of the entry that gave a variable its value
pub record IsPlaceOf (entries : List Entry) (v place : ℕ) : Type 0 where
  pub within : place < length entries
  pub var_is : (d : Entry) → (slice_index_or entries place d).lit.var ≡ v

-- for each variable that has a value the place of its entry
pub record AreStanding (values : List Value) (entries : List Entry) (places : List ℕ) : Type 0 where
  pub count : length places ≡ length values
  pub each : (v : ℕ) → 1 ≤ v → v ≤ length values → valued values v ≢ Free
      → IsPlaceOf entries v (slice_index_or places (v - 1) 0)

pub record IsPath (values : List Value) (entries : List Entry) (places : List ℕ) (capacity : ℕ) : Type 0 where
  pub kept : AreKept values entries capacity
  pub standing : AreStanding values entries places

-- a path with other entries
abbrev pub with_entries : SeenPath → List Entry → SeenPath
with_entries path es = record path { entries = es }
