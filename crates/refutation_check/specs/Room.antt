-- How many bytes the rows of steps count, and whether they keep to a limit.
use Rattle.std.specs.Prelude.{◌≡◌, ℕ, ◌+◌, ◌*◌, ◌^◌, ◌||◌, ◌≤◌, ◌<◌, nat_le, List, length, sum_by, take, Bool, true, false}
use Rattle.std.specs.Prelude.{Option, None, Some, if◌then◌else◌}
use Rattle.std.specs.List.{fold, list_any}
use Rattle.rows.specs.Rows.{Row}
use Rattle.rows.specs.declared.lit.Term.{Term}
use Rattle.refutation.specs.Steps.{Step}
use Rattle.refutation_check.specs.Judged.{Judged, JudgedStep, after_step, no_step_of}

-- whether a coefficient is past 32 bits
abbrev pub has_wide : List Term → Bool
has_wide terms = list_any (λ t. nat_le (2 ^ 32) t.coef) terms

-- whether a coefficient is past 32 bits, or the degree past 64
abbrev pub is_wide : Row → Bool
is_wide row = nat_le (2 ^ 64) row.degree || has_wide row.terms

-- so much is taken for a step and its row (own choice of layout): 64 bytes, and 8 a term, or 32 in a wide row
abbrev pub row_bytes : Row → ℕ
row_bytes row = 64 + (if is_wide row then 32 else 8) * length row.terms

-- what all these steps take
abbrev pub steps_bytes : List JudgedStep → ℕ
steps_bytes steps = sum_by (λ s. row_bytes s.row) steps

-- whether the steps that followed take no more than there is room for; with None there is no limit
abbrev pub has_room : Option ℕ → Judged → Bool
has_room None state = true
has_room (Some most) state = nat_le (steps_bytes state.steps) most

-- the steps of a log over rows of so many variables keep to a limit, or some first of them don't
abbrev pub KeepsRoom : List Row → ℕ → Option ℕ → List Step → Type 0
KeepsRoom rows vars room steps = has_room room (fold after_step (no_step_of rows vars) steps) ≡ true

abbrev pub PassesRoom : List Row → ℕ → Option ℕ → List Step → Type 0
PassesRoom rows vars room steps =
    (k : ℕ) × (k ≤ length steps) × (has_room room (fold after_step (no_step_of rows vars) (take k steps)) ≡ false)

-- Some first of these steps were judged. Behind each of them but the last, all steps that followed keep to a limit.
abbrev pub StopsInTime : Option ℕ → Judged → List Step → Judged → Type 0
StopsInTime room before steps after =
    (k : ℕ) × (k ≤ length steps) × (after ≡ fold after_step before (take k steps))
    × ((j : ℕ) → 1 ≤ j → j < k → has_room room (fold after_step before (take j steps)) ≡ true)
