-- Hints and parts, one after another.
use Rattle.std.proofs.Common.{◌≡◌, ℕ, ◌+◌, ◌<◌, Bool, true, false, cond, List, [], length, drop, get_or}
use Rattle.std.proofs.Common.{Option, Some, None, ap, refl, sym, ◌∙◌}
use Rattle.std.proofs.lemmas.List.{drop_more}
use Rattle.std.proofs.lemmas.List.Elements.{All-nil}
use Rattle.rows.specs.Rows.{Row}
use Rattle.rows.specs.Forcing.{with_forced}
use Rattle.rows.specs.Trails.{IsListed}
use Rattle.rows.specs.Values.{valued}
use Rattle.rows.specs.declared.partial.Value.{Value}
use Rattle.refutation.specs.Following.{after_row, all_free, is_in_conflict, replay, row_numbered}
use Rattle.refutation.specs.declared.verdict.Cause.{Cause}
use Rattle.refutation.specs.declared.verdict.Cause.TheVariants.{UnknownRow}
use Rattle.refutation_check.specs.Kept.{forced_at, turn_at}
use Rattle.refutation_check.specs.declared.replay.Turn.TheVariants.{Conflict, Forced, Unknown}

forced_if : (conflict : Bool) (rest : (ℕ → Value) → Option Cause) (now next : ℕ → Value)
    → cond conflict Conflict Forced ≡ Forced → next ≡ now → rest next ≡ cond conflict None (rest now)
forced_if true rest now next is same = absurd (cc)
forced_if false rest now next is same = ap rest same

after_forced : (row : Option Row) (values next : ℕ → Value) (rest : (ℕ → Value) → Option Cause)
    → turn_at row values ≡ Forced → next ≡ forced_at row values → rest next ≡ after_row row values rest
after_forced None values next rest is same = absurd (cc)
after_forced (Some row) values next rest is same =
    forced_if (is_in_conflict values row) rest (with_forced values row) next is same

-- behind a hint whose row forces, the later hints come to what all come to
pub forced_next : (rows : List Row) (hints : List ℕ) (i : ℕ) (values next : ℕ → Value) → i < length hints
    → turn_at (row_numbered rows (get_or hints i 0)) values ≡ Forced
    → next ≡ forced_at (row_numbered rows (get_or hints i 0)) values
    → replay rows (drop (i + 1) hints) next ≡ replay rows (drop i hints) values
forced_next rows hints i values next within is same =
    after_forced (row_numbered rows (get_or hints i 0)) values next (replay rows (drop (i + 1) hints)) is same
    ∙ ap (λ (later : List ℕ). replay rows later values) (sym (drop_more hints i 0 within))

unknown_if : (conflict : Bool) {P : Type 0} → cond conflict Conflict Forced ≡ Unknown → P
unknown_if true is = absurd (cc)
unknown_if false is = absurd (cc)

after_unknown : (row : Option Row) (values : ℕ → Value) (rest : (ℕ → Value) → Option Cause)
    → turn_at row values ≡ Unknown → after_row row values rest ≡ Some UnknownRow
after_unknown None values rest is = refl
after_unknown (Some row) values rest is = unknown_if (is_in_conflict values row) is

-- a hint that names no row ends the hints
pub unknown_next : (rows : List Row) (hints : List ℕ) (i : ℕ) (values : ℕ → Value) → i < length hints
    → turn_at (row_numbered rows (get_or hints i 0)) values ≡ Unknown
    → replay rows (drop i hints) values ≡ Some UnknownRow
unknown_next rows hints i values within is =
    ap (λ (later : List ℕ). replay rows later values) (drop_more hints i 0 within)
    ∙ after_unknown (row_numbered rows (get_or hints i 0)) values (replay rows (drop (i + 1) hints)) is

conflict_if : (conflict : Bool) (last : Option Cause) → cond conflict Conflict Forced ≡ Conflict
    → cond conflict None last ≡ None
conflict_if true last is = refl
conflict_if false last is = absurd (cc)

after_conflict : (row : Option Row) (values : ℕ → Value) (rest : (ℕ → Value) → Option Cause)
    → turn_at row values ≡ Conflict → after_row row values rest ≡ None
after_conflict None values rest is = absurd (cc)
after_conflict (Some row) values rest is =
    conflict_if (is_in_conflict values row) (rest (with_forced values row)) is

-- so does one whose row is in conflict
pub conflict_next : (rows : List Row) (hints : List ℕ) (i : ℕ) (values : ℕ → Value) → i < length hints
    → turn_at (row_numbered rows (get_or hints i 0)) values ≡ Conflict
    → replay rows (drop i hints) values ≡ None
conflict_next rows hints i values within is =
    ap (λ (later : List ℕ). replay rows later values) (drop_more hints i 0 within)
    ∙ after_conflict (row_numbered rows (get_or hints i 0)) values (replay rows (drop (i + 1) hints)) is

-- where nothing has a value nothing need be listed
pub none_listed : (values : List Value) (trail : List ℕ) → valued values ≡ all_free → trail ≡ []
    → IsListed values trail
none_listed values trail free none =
    rw none (record {
      set = λ v taken. absurd (taken (ap (λ (f : ℕ → Value). f v) free));
      within = All-nil _;
    })
