-- What looks at rows leave.
use Rattle.std.specs.Prelude.{◌≡◌, ℕ, ◌+◌, ◌-◌, ◌*◌, ◌<◌, ◌≤◌, List, length, slice_index_or}
use Rattle.std.specs.List.{All}
use Rattle.rows.specs.Literals.{negate}
use Rattle.rows.specs.Rows.{IsRow, Row}
use Rattle.rows.specs.Partials.{IsQuiet, IsQuietRow, value_of}
use Rattle.rows.specs.declared.lit.Term.{Term}
use Rattle.rows.specs.declared.partial.Value.{Value}
use Rattle.rows.specs.declared.partial.Value.TheVariants.{Free}
use Rattle.propagate.specs.Trails.{AreLawful, IsGrown, KnowsVariables, NamesConflict, values_of}
use Rattle.propagate.specs.Links.{Lacks}
use Rattle.propagate.specs.Numbered.{row_at}
use Rattle.propagate.specs.Paths.{SeenPath}
use Rattle.propagate.specs.Watches.{IsClause, IsWatching}
use Rattle.propagate.specs.declared.entry.Entry.{Entry}
use Rattle.propagate.specs.declared.force.Forced.{Forced}
use Rattle.propagate.specs.declared.settle.Looked.{Looked}
use Rattle.propagate.specs.declared.settle.Turn.{Turn}
use Rattle.propagate.specs.declared.settle.Turn.TheVariants.{Again, Quiet, Stopped}
use Rattle.propagate.specs.declared.watches.Watches.{Watches}

-- ---- rows and entries

-- rows over these variables, clauses behind those that were given, and entries that are lawful over them
pub record AreSound (path : SeenPath) : Type 0 where
  pub proper : All IsRow path.rows
  pub known : All (KnowsVariables path.vars) path.rows
  pub lawful : AreLawful path.rows path.vars path.entries
  pub given : path.given ≤ length path.rows
  pub clauses : (k : ℕ) → path.given ≤ k → k < length path.rows → IsClause (row_at path.rows k)

-- rows forced some literals
pub record IsGrownOver (old new : SeenPath) : Type 0 where
  pub same : new ≡ record old { entries = new.entries }
  pub grown : IsGrown old.entries new.entries
  pub lawful : AreLawful old.rows old.vars new.entries

-- ---- one row

-- from a place up to another no term has a free literal and a coefficient above the slack
abbrev pub IsUnforced : (ℕ → Value) → List Term → ℕ → ℕ → ℕ → Type 0
IsUnforced values terms slack from to = (j : ℕ) (d : Term) → from ≤ j → j < to
    → value_of values (slice_index_or terms j d).lit ≡ Free → (slice_index_or terms j d).coef ≤ slack

-- the first that has
pub record IsForcedIn (values : ℕ → Value) (terms : List Term) (slack from : ℕ) (forced : Forced) : Type 0 where
  pub past : from ≤ forced.place
  pub there : forced.place < length terms
  pub literal : (d : Term) → (slice_index_or terms forced.place d).lit ≡ forced.lit
  pub free : value_of values forced.lit ≡ Free
  pub needed : (d : Term) → slack < (slice_index_or terms forced.place d).coef
  pub before : IsUnforced values terms slack from forced.place

-- ---- all rows

-- the row is quiet, unless an entry from a place on made a literal of it false
abbrev pub IsSeen : Row → List Entry → ℕ → Type 0
IsSeen row entries from =
    ((j : ℕ) (d : Entry) → from ≤ j → j < length entries → Lacks (negate (slice_index_or entries j d).lit) row.terms)
    → IsQuietRow (values_of entries) row

-- how far a path was looked at
pub record IsReady (path : SeenPath) (looked : Looked) : Type 0 where
  pub sound : AreSound path
  pub entries : looked.entries ≤ length path.entries
  pub rows : looked.rows ≤ length path.rows
  pub seen : (k : ℕ) → k < looked.rows → IsSeen (row_at path.rows k) path.entries looked.entries

-- how much is left to look at: for each variable each row again
abbrev pub left_of : SeenPath → Looked → ℕ
left_of path looked = (path.vars - looked.entries) * (length path.rows + 1) + (length path.rows - looked.rows)

-- what a turn comes to
abbrev pub IsTurn : SeenPath → Looked → Looked → Turn → Type 0
IsTurn path old new Again = left_of path new < left_of path old
IsTurn path old new Quiet = IsQuiet (values_of path.entries) path.rows × (new.entries ≡ length path.entries)
IsTurn path old new (Stopped conflict) = NamesConflict path.rows (values_of path.entries) conflict

-- none of the rows that were given waits any more for the entry at a place
abbrev pub AreGivenSeen : SeenPath → Looked → Type 0
AreGivenSeen path looked =
    (k : ℕ) → k < path.given → k < looked.rows → IsSeen (row_at path.rows k) path.entries (looked.entries + 1)

-- ---- a trail

-- how far a path was looked at, and its clauses are watched
pub record IsTrail (path : SeenPath) (watches : Watches) (looked : Looked) : Type 0 where
  pub ready : IsReady path looked
  pub watching : IsWatching path watches looked.entries
