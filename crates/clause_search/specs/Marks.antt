-- How an analysis marks the places of a trail.
use Rattle.std.specs.Prelude.{◌≡◌, ◌≢◌, ℕ, ◌<◌, ◌≤◌, ◌⊎◌, true, false, List, length, slice_index_or}
use Rattle.rows.specs.Rows.{Row}
use Rattle.rows.specs.Partials.{IsInConflict, IsQuiet, value_of}
use Rattle.rows.specs.declared.lit.Term.{Term}
use Rattle.rows.specs.declared.partial.Value.TheVariants.{False}
use Rattle.propagate.specs.Trails.{SeenTrail, is_decision}
use Rattle.propagate.specs.declared.entry.Entry.{Entry}
use Rattle.clause_search.specs.Analysis.{IsMarked, IsResolved, Resolves}
use Rattle.clause_search.specs.Trails.{before, entry_at, lit_at, reason_at}
use Rattle.clause_search.specs.declared.role.Role.{Role}
use Rattle.clause_search.specs.declared.role.Role.TheVariants.{Apart, Kept, Used}

abbrev pub role_at : List Role → ℕ → Role
role_at roles k = slice_index_or roles k Apart

-- Each of the first terms whose literal was false before a place has its negation marked. Nothing else changes but from
-- apart to kept, before that place, and `now` is the lowest place from `start` on that was marked, or what it was.
pub record Marks (entries : List Entry) (terms : List Term) (count limit start lowest : ℕ) (old new : List Role)
    (now : ℕ) : Type 0 where
  pub same_length : length new ≡ length old
  pub keeps : (j : ℕ) → role_at old j ≢ Apart → role_at new j ≡ role_at old j
  pub above : (j : ℕ) → limit ≤ j → role_at new j ≡ role_at old j
  pub unused : (j : ℕ) → j < limit → role_at new j ≢ Used
  pub marked : (i : ℕ) (d : Term) → i < count → value_of (before entries limit) (slice_index_or terms i d).lit ≡ False
      → IsMarked (lit_at entries) (role_at new) limit (slice_index_or terms i d).lit
  pub low : now ≤ lowest
  pub late : (j : ℕ) → start ≤ j → j < now → role_at new j ≡ role_at old j
  pub at : (now ≡ lowest) ⊎ ((start ≤ now) × (now < limit) × (role_at new now ≡ Kept))

-- the place of the last decision, before which the rows are quiet
pub record IsLastDecision (trail : SeenTrail) (start : ℕ) : Type 0 where
  pub inside : start < length trail.entries
  pub decision : is_decision (entry_at trail.entries start) ≡ true
  pub last : (k : ℕ) → start < k → k < length trail.entries → is_decision (entry_at trail.entries k) ≡ false
  pub quiet : IsQuiet (before trail.entries start) trail.rows

-- An analysis has come down a trail to place k: of the places from there on those that are used are resolved, and with
-- them the false literals of the row in conflict are marked.
pub record AreResolved (trail : SeenTrail) (conflict : ℕ) (roles : List Role) (k : ℕ) : Type 0 where
  pub within : k ≤ length trail.entries
  pub lengths : length roles ≡ length trail.entries
  pub unused : (j : ℕ) → j < k → role_at roles j ≢ Used
  pub used : (j : ℕ) → k ≤ j → j < length trail.entries → role_at roles j ≡ Used
      → IsResolved trail.rows (lit_at trail.entries) (reason_at trail.entries) (role_at roles) j
      (before trail.entries j)
  pub row : Row
  pub resolves : Resolves trail.rows (lit_at trail.entries) (role_at roles) (length trail.entries)
      (before trail.entries (length trail.entries)) conflict row
  pub conflict_is : IsInConflict (before trail.entries (length trail.entries)) row

-- An analysis above level 0 has come down to place k, where `lowest` is the lowest place from the last decision on that
-- is marked.
pub record IsWalked (trail : SeenTrail) (conflict start : ℕ) (roles : List Role) (lowest k : ℕ) : Type 0 where
  pub resolved : AreResolved trail conflict roles k
  pub above_start : start ≤ lowest
  pub inside : lowest < length trail.entries
  pub kept : role_at roles lowest ≡ Kept
  pub apart : (j : ℕ) → start ≤ j → j < lowest → role_at roles j ≡ Apart
  pub alone : (j : ℕ) → k ≤ j → lowest < j → j < length trail.entries → role_at roles j ≢ Kept

-- An analysis at level 0 has come down to place k, and nothing is kept.
pub record IsTraced (trail : SeenTrail) (conflict : ℕ) (roles : List Role) (k : ℕ) : Type 0 where
  pub resolved : AreResolved trail conflict roles k
  pub none : (j : ℕ) → k ≤ j → j < length trail.entries → role_at roles j ≢ Kept

-- the walk above level 0 has come to the trail's front
pub record IsAnalyzed (trail : SeenTrail) (conflict start : ℕ) (roles : List Role) : Type 0 where
  pub lowest : ℕ
  pub walked : IsWalked trail conflict start roles lowest 0

-- a level to go back to: 0, or one that isn't above that of some kept literal from before the last decision
abbrev pub IsBackLevel : List Entry → List Role → ℕ → ℕ → Type 0
IsBackLevel entries roles start level =
    (level ≡ 0) ⊎ ((k : ℕ) × (k < start) × (role_at roles k ≡ Kept) × (level ≤ (entry_at entries k).level))
