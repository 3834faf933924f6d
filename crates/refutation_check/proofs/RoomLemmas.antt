-- How many bytes steps take, and whether they keep to a limit.
use Rattle.std.proofs.Common.{◌≡◌, ℕ, ◌+◌, ◌^◌, ◌<◌, ◌≤◌, ◌||◌, Bool, true, false, List, [], ◌∷◌, ◌++◌, map, length, take}
use Rattle.std.proofs.Common.{get_or, Option, Some, None, arith, ap, inl, inr, refl, subst, ◌∙◌}
use Rattle.std.specs.Prelude.{nat_le}
use Rattle.std.specs.List.{fold}
use Rattle.std.proofs.lemmas.Bool.{cases_lt}
use Rattle.std.proofs.lemmas.Bool.Decides.{nat_tests}
use Rattle.std.proofs.lemmas.List.{map-append}
use Rattle.std.proofs.lemmas.List.Folds.{list_any_more}
use Rattle.std.proofs.lemmas.List.Sums.{sum_by_push}
use Rattle.rows.specs.Rows.{Row}
use Rattle.rows.specs.declared.lit.Term.{Term}
use Rattle.refutation.specs.Steps.{Step}
use Rattle.refutation_check.specs.Judged.{Judged, JudgedStep, after_step, no_step_of}
use Rattle.refutation_check.specs.Kept.{judged_step}
use Rattle.refutation_check.specs.Room.{KeepsRoom, has_room, has_wide, row_bytes, steps_bytes}
use Rattle.refutation_check.specs.declared.kept.KeptStep.{KeptStep}

-- one more term that has 32 bits
pub has_wide_more : (terms : List Term) (i : ℕ) (t : Term) → i < length terms → t ≡ get_or terms i t
    → has_wide (take i terms) ≡ false → t.coef < 2 ^ 32 → has_wide (take (i + 1) terms) ≡ false
has_wide_more terms i t within is before narrow =
    let not_wide : nat_le (2 ^ 32) t.coef ≡ false = grind (arith, nat_tests) in
    list_any_more (λ (u : Term). nat_le (2 ^ 32) u.coef) terms i t within
    ∙ (ap (λ (b : Bool). b || nat_le (2 ^ 32) (get_or terms i t).coef) before
    ∙ subst (λ (u : Term). nat_le (2 ^ 32) u.coef ≡ false) is not_wide)

-- a step more
pub bytes_more : (steps : List KeptStep) (step : KeptStep)
    → steps_bytes (map judged_step (steps ++ step ∷ []))
    ≡ steps_bytes (map judged_step steps) + row_bytes (judged_step step).row
bytes_more steps step =
    ap (λ (all : List JudgedStep). steps_bytes all) (map-append judged_step steps (step ∷ []))
    ∙ sum_by_push (λ (s : JudgedStep). row_bytes s.row) (map judged_step steps) (judged_step step)

-- no step takes nothing
pub room_of_none : (rows : List Row) (vars : ℕ) (room : Option ℕ) → has_room room (no_step_of rows vars) ≡ true
room_of_none rows vars None = refl
room_of_none rows vars (Some most) = grind (arith, nat_tests)

-- where a next step keeps room too, each step up to it does
pub room_up_to : (room : Option ℕ) (old new : Judged) (steps : List Step) (k : ℕ)
    → new ≡ fold after_step old (take (k + 1) steps) → has_room room new ≡ true
    → ((j : ℕ) → 1 ≤ j → j ≤ k → has_room room (fold after_step old (take j steps)) ≡ true)
    → (j : ℕ) → 1 ≤ j → j ≤ k + 1 → has_room room (fold after_step old (take j steps)) ≡ true
room_up_to room old new steps k next has early j some most =
    elim (cases_lt k j) [
      | inl last ↦
          let same : k + 1 ≡ j = omega (arith, last, most) in
          subst (λ (n : ℕ). has_room room (fold after_step old (take n steps)) ≡ true) same
          (subst (λ (s : Judged). has_room room s ≡ true) next has)
      | inr before ↦ early j some before
    ]

-- ---- a log's steps, given to a checker that was given none

pub keeps_room : (rows : List Row) (vars : ℕ) (room : Option ℕ) (steps : List Step) (old new : Judged)
    → old ≡ no_step_of rows vars → new ≡ fold after_step old steps
    → (has_room room old ≡ true → has_room room new ≡ true) → KeepsRoom rows vars room steps
keeps_room rows vars room steps old new none at within =
    subst (λ (s : Judged). has_room room s ≡ true) (at ∙ ap (λ (s : Judged). fold after_step s steps) none)
    (within (ap (λ (s : Judged). has_room room s) none ∙ room_of_none rows vars room))
