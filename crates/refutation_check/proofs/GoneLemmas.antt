-- A step whose row is let go among the steps that are kept.
use Rattle.std.proofs.Common.{◌≡◌, ℕ, zero, suc, ◌+◌, ◌<◌, ◌≤◌, Bool, true, false, List, [], ◌∷◌}
use Rattle.std.proofs.Common.{get_or, length, map, slice_set, refl, arith, ap, sym, subst, ◌∙◌}
use Rattle.std.specs.Prelude.{nat_lt, if◌then◌else◌}
use Rattle.std.proofs.lemmas.Bool.Decides.{nat_tests}
use Rattle.std.proofs.lemmas.List.{length-map}
use Rattle.std.proofs.lemmas.List.Elements.{All-cons, All-head, All-nil, All-tail}
use Rattle.std.proofs.lemmas.List.Sums.{sum_by-cons}
use Rattle.rows.specs.Rows.{Row}
use Rattle.refutation_check.specs.Forgotten.{gone, without}
use Rattle.refutation_check.specs.Judged.{JudgedStep}
use Rattle.refutation_check.specs.Kept.{all_rows, judged_step}
use Rattle.refutation_check.specs.Room.{row_bytes, steps_bytes}
use Rattle.refutation_check.specs.Within.{AreWithin, IsWithin}
use Rattle.refutation_check.specs.declared.kept.KeptStep.{KeptStep}

-- ---- the steps

set-judged : (steps : List KeptStep) (place : ℕ) (x : KeptStep)
    → map judged_step (slice_set steps place x) ≡ slice_set (map judged_step steps) place (judged_step x)
set-judged [] place x = refl
set-judged (s ∷ steps) zero x = refl
set-judged (s ∷ steps) (suc place) x = ap (λ (all : List JudgedStep). judged_step s ∷ all) (set-judged steps place x)

pub gone-steps : (steps : List KeptStep) (place : ℕ) (x : KeptStep) → judged_step x ≡ gone
    → place + 1 < length steps
    → map judged_step (slice_set steps place x) ≡ without place (map judged_step steps)
gone-steps steps place x is within =
    let all : List JudgedStep = map judged_step steps in
    let count : length all ≡ length steps = length-map steps judged_step in
    let inside : nat_lt (place + 1) (length all) ≡ true = grind (arith, nat_tests) in
    set-judged steps place x
    ∙ ap (λ (s : JudgedStep). slice_set all place s) is
    ∙ ap (λ (b : Bool). if b then slice_set all place gone else all) (sym inside)

-- the last step stays
pub stays-steps : (steps : List KeptStep) (place : ℕ) → length steps ≤ place + 1
    → map judged_step steps ≡ without place (map judged_step steps)
stays-steps steps place past =
    let all : List JudgedStep = map judged_step steps in
    let count : length all ≡ length steps = length-map steps judged_step in
    let outside : nat_lt (place + 1) (length all) ≡ false = grind (arith, nat_tests) in
    ap (λ (b : Bool). if b then slice_set all place gone else all) (sym outside)

-- ---- their bytes

pub bytes_least : (row : Row) → 64 ≤ row_bytes row
bytes_least row = omega arith

gone_bytes : row_bytes gone.row ≡ 64
gone_bytes = refl

cons-bytes : (s : JudgedStep) (steps : List JudgedStep) → steps_bytes (s ∷ steps) ≡ row_bytes s.row + steps_bytes steps
cons-bytes s steps = sum_by-cons (λ (j : JudgedStep). row_bytes j.row) s steps

pub gone-bytes : (steps : List KeptStep) (place : ℕ) (x d : KeptStep) → judged_step x ≡ gone → place < length steps
    → steps_bytes (map judged_step (slice_set steps place x)) + row_bytes (judged_step (get_or steps place d)).row
    ≡ steps_bytes (map judged_step steps) + 64
gone-bytes [] place x d is within = absurd (omega (arith, within))
gone-bytes (s ∷ steps) zero x d is within =
    let all : List JudgedStep = map judged_step steps in
    let new : row_bytes (judged_step x).row ≡ 64 = ap (λ (j : JudgedStep). row_bytes j.row) is ∙ gone_bytes in
    omega (arith, cons-bytes (judged_step x) all, cons-bytes (judged_step s) all, new)
gone-bytes (s ∷ steps) (suc place) x d is within =
    omega (
      arith,
      cons-bytes (judged_step s) (map judged_step (slice_set steps place x)),
      cons-bytes (judged_step s) (map judged_step steps),
      gone-bytes steps place x d is (omega (arith, within)),
    )

-- ---- their variables

pub gone-within : (vars : ℕ) (rows : List Row) (steps : List KeptStep) (place : ℕ) (x : KeptStep)
    → judged_step x ≡ gone → AreWithin vars (all_rows rows steps) → AreWithin vars (all_rows rows (slice_set steps place x))
gone-within vars rows steps place x is within = in_all rows steps place within
  where
    here : IsWithin vars (judged_step x).row
    here = subst (λ (s : JudgedStep). IsWithin vars s.row) (sym is) (All-nil (λ t. t.lit.var ≤ vars))

    row_of : KeptStep → Row
    row_of s = (judged_step s).row

    in_all : (rs : List Row) (ss : List KeptStep) (p : ℕ) → AreWithin vars (all_rows rs ss)
        → AreWithin vars (all_rows rs (slice_set ss p x))
    in_all [] [] p all = all
    in_all [] (s ∷ ss) zero all =
        All-cons (IsWithin vars) (judged_step x).row (all_rows [] ss) here
        (All-tail (IsWithin vars) (judged_step s).row (all_rows [] ss) all)
    in_all [] (s ∷ ss) (suc p) all =
        All-cons (IsWithin vars) (judged_step s).row (all_rows [] (slice_set ss p x))
        (All-head (IsWithin vars) (judged_step s).row (all_rows [] ss) all)
        (in_all [] ss p (All-tail (IsWithin vars) (judged_step s).row (all_rows [] ss) all))
    in_all (r ∷ rs) ss p all =
        All-cons (IsWithin vars) r (all_rows rs (slice_set ss p x))
        (All-head (IsWithin vars) r (all_rows rs ss) all)
        (in_all rs ss p (All-tail (IsWithin vars) r (all_rows rs ss) all))
