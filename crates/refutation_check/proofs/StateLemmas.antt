-- What a step changes of a checker, and how its steps end.
use Rattle.std.proofs.Common.{◌≡◌, ℕ, suc, ◌+◌, ◌-◌, ◌<◌, Bool, false, List, [], ◌∷◌, map, length, take, get_or}
use Rattle.std.proofs.Common.{Option, Some, None, refl, arith, ap, sym, subst, ◌∙◌}
use Rattle.std.specs.Prelude.{Result, Ok, IfSome, is_some}
use Rattle.std.specs.List.{fold, slice_get}
use Rattle.std.proofs.lemmas.List.Sums.{fold_more}
use Rattle.std.proofs.lemmas.Option.{slice_get-get_or}
use Rattle.rows.specs.Rows.{Row}
use Rattle.refutation.specs.Steps.{Step, kind_of}
use Rattle.refutation.specs.Steps.Step.{Clause}
use Rattle.refutation.specs.Following.{judged}
use Rattle.refutation.specs.declared.verdict.Cause.{Cause}
use Rattle.refutation_check.specs.Judged.{Judged, after_step, ends_false, is_falsum, with_step}
use Rattle.refutation_check.specs.Kept.{all_rows, judged_step, row_result, state_of}
use Rattle.refutation_check.specs.declared.kept.KeptStep.{KeptStep}
use Rattle.refutation_check.specs.declared.kept.Rejection.{Rejection}

-- ---- a step more

next_state : (rows : List Row) (vars : ℕ) (steps : List KeptStep) (rejection : Option Rejection)
    (old new : Judged) (step : Step) → state_of rows vars steps rejection ≡ old → rejection ≡ None
    → new ≡ with_step (state_of rows vars steps rejection) (kind_of step) (judged (all_rows rows steps) vars step)
    → new ≡ after_step old step
next_state rows vars steps None old new step was is now = now ∙ ap (λ (s : Judged). after_step s step) was
next_state rows vars steps (Some rejection) old new step was is now = absurd (cc)

-- where nothing was rejected, what a step is judged to be comes next
pub judged_next : (rows : List Row) (vars : ℕ) (steps seen : List KeptStep) (rejection : Option Rejection)
    (old new : Judged) (step : Step) (found : Result KeptStep Cause) → state_of rows vars steps rejection ≡ old
    → rejection ≡ None → seen ≡ steps → row_result found ≡ judged (all_rows rows seen) vars step
    → new ≡ with_step (state_of rows vars steps rejection) (kind_of step) (row_result found)
    → new ≡ after_step old step
judged_next rows vars steps seen rejection old new step found was is same row now =
    next_state rows vars steps rejection old new step was is
    (now
    ∙ ap (λ (r : Result Row Cause). with_step (state_of rows vars steps rejection) (kind_of step) r)
    (row ∙ ap (λ (all : List KeptStep). judged (all_rows rows all) vars step) same))

pub none_kept : {X : Type 0} (o : Option X) (some : Bool) → some ≡ is_some o → some ≡ false → o ≡ None
none_kept None some is none = refl
none_kept (Some x) some is none = absurd (cc)

-- ---- how steps end

pub ends_last : (steps : List KeptStep) (s : KeptStep) → slice_get steps (length steps - 1) ≡ Some s
    → ends_false (map judged_step steps) ≡ is_falsum (judged_step s)
ends_last [] s last = absurd (cc)
ends_last (a ∷ []) s last =
    let same : a ≡ s = cc in ap (λ (t : KeptStep). is_falsum (judged_step t)) same
ends_last (a ∷ b ∷ steps) s last =
    let place : suc (suc (length steps)) - 1 ≡ suc (suc (length steps) - 1) = omega arith in
    ends_last (b ∷ steps) s (ap (λ (k : ℕ). slice_get (a ∷ b ∷ steps) k) (sym place) ∙ last)

-- ---- a log's steps, one after another

of_some : (start now next : Judged) (o : Option Step) (step : Step) → o ≡ Some step
    → IfSome o (λ s. next ≡ after_step now s) → next ≡ after_step now step
of_some start now next o step is given =
    let at = subst (λ (p : Option Step). IfSome p (λ s. next ≡ after_step now s)) is given in at

pub given_next : (start now next : Judged) (log : List Step) (k : ℕ) → k < length log
    → now ≡ fold after_step start (take k log) → IfSome (slice_get log k) (λ step. next ≡ after_step now step)
    → next ≡ fold after_step start (take (k + 1) log)
given_next start now next log k within before given =
    let step : Step = get_or log k (Clause [] []) in
    of_some start now next (slice_get log k) step (slice_get-get_or log k (Clause [] []) within) given
    ∙ (ap (λ (s : Judged). after_step s step) before
    ∙ sym (fold_more after_step start log k (Clause [] []) within))

pub same_ok : {T E : Type 0} {x y : T} → (let r : Result T E = Ok x in r) ≡ Ok y → x ≡ y
same_ok is = cc
