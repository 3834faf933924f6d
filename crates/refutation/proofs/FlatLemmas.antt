-- Steps that lie end to end in flat lists.
use Rattle.std.proofs.Common.{◌≡◌, ◌≢◌, ℕ, zero, suc, ◌+◌, ◌-◌, ◌<◌, ◌≤◌, ◌==◌, false, List, [], ◌∷◌, ◌++◌, length}
use Rattle.std.proofs.Common.{get_or, take, drop}
use Rattle.std.proofs.Common.{Some, refl, arith, ap, sym, subst, ◌∙◌, length-append}
use Rattle.std.specs.Prelude.{slice_get, slice_range, if◌then◌else◌}
use Rattle.std.specs.List.{All}
use Rattle.std.proofs.Math.Seq.{drop-append_seam}
use Rattle.std.proofs.lemmas.Bool.Decides.{nat_tests}
use Rattle.std.proofs.lemmas.List.{drop-append-le, length-drop, take-append-le, take_all}
use Rattle.std.proofs.lemmas.List.Elements.{All-append, All-take, All-drop}
use Rattle.rows.specs.Literals.{Literal}
use Rattle.refutation.specs.Steps.{Step, kind_of, kind_at, clause_of, clause_at, hints_of, hints_at, parts_of}
use Rattle.refutation.specs.Steps.{parts_at, divisor_of, divisor_at}
use Rattle.refutation.specs.Steps.Step.{Clause, Linear}
use Rattle.refutation.specs.Flat.{AreEnds, AreKept, IsBehind, IsWhole, Lists, end_before, front, step_between}
use Rattle.refutation.specs.Flat.{steps_from}
use Rattle.refutation.specs.declared.log.End.{End}
use Rattle.refutation.specs.declared.step.Part.{Part}
use Rattle.refutation.specs.declared.step.StepKind.TheVariants as kinds

-- the lists with more behind each
abbrev pub grown : Lists → Lists → Lists
grown lists more = record {
  lits = lists.lits ++ more.lits;
  hints = lists.hints ++ more.hints;
  parts = lists.parts ++ more.parts;
}

-- an end is at most where everything ends
pub record IsWithin (end : End) (lists : Lists) : Type 0 where
  pub lits : end.lits ≤ length lists.lits
  pub hints : end.hints ≤ length lists.hints
  pub parts : end.parts ≤ length lists.parts

pub AreEnds-within : (from : End) (ends : List End) (lists : Lists) → AreEnds from ends lists → IsWithin from lists
AreEnds-within from [] lists is = record { lits = omega arith; hints = omega arith; parts = omega arith }
AreEnds-within from (to ∷ ends) lists is =
    let rest : IsWithin to lists = AreEnds-within to ends lists is.1 in
    let first : IsBehind from to = is.0 in
    record { lits = omega arith; hints = omega arith; parts = omega arith }

-- a part within a list stays where more comes behind
slice_range-within : {X : Type 0} (xs more : List X) (from to : ℕ) → from ≤ to → to ≤ length xs
    → slice_range (xs ++ more) from to ≡ slice_range xs from to
slice_range-within {X} xs more from to order inside =
    ap (λ (ys : List X). take (to - from) ys) (drop-append-le from xs more (omega arith))
    ∙ take-append-le (to - from) (drop from xs) more (omega (arith, length-drop from xs))

-- what comes behind is the part from the seam to the new end
slice_range-behind : {X : Type 0} (xs more : List X) (from to : ℕ) → from ≡ length xs
    → to ≡ length xs + length more → slice_range (xs ++ more) from to ≡ more
slice_range-behind {X} xs more from to at whole =
    ap (λ (ys : List X). take (to - from) ys) (ap (λ (k : ℕ). drop k (xs ++ more)) at ∙ drop-append_seam xs more)
    ∙ take_all (to - from) more (omega arith)

-- the step that ends at an end with this divisor
abbrev pub step_made : ℕ → Lists → Step
step_made divisor lists = if divisor == 0 then Clause lists.lits lists.hints else Linear lists.parts divisor

-- where what was added ends
pub record IsGrown (lists more : Lists) (last : End) : Type 0 where
  pub lits : last.lits ≡ length lists.lits + length more.lits
  pub hints : last.hints ≡ length lists.hints + length more.hints
  pub parts : last.parts ≡ length lists.parts + length more.parts

step_made-same : (divisor : ℕ) (lits lits' : List Literal) (hints hints' : List ℕ) (parts parts' : List Part)
    → lits ≡ lits' → hints ≡ hints' → parts ≡ parts'
    → step_made divisor (record { lits = lits; hints = hints; parts = parts })
    ≡ step_made divisor (record { lits = lits'; hints = hints'; parts = parts' })
step_made-same divisor lits lits' hints hints' parts parts' p q r =
    rw (p, q, r) refl

step_between-grown : (lists more : Lists) (from to : End) → IsBehind from to → IsWithin to lists
    → step_between (grown lists more) from to ≡ step_between lists from to
step_between-grown lists more from to order inside =
    step_made-same to.divisor _ _ _ _ _ _
    (slice_range-within lists.lits more.lits from.lits to.lits order.lits inside.lits)
    (slice_range-within lists.hints more.hints from.hints to.hints order.hints inside.hints)
    (slice_range-within lists.parts more.parts from.parts to.parts order.parts inside.parts)

step_between-added : (lists more : Lists) (from to : End) → IsWhole lists from → IsGrown lists more to
    → step_between (grown lists more) from to ≡ step_made to.divisor more
step_between-added lists more from to at whole =
    step_made-same to.divisor _ _ _ _ _ _
    (slice_range-behind lists.lits more.lits from.lits to.lits at.lits whole.lits)
    (slice_range-behind lists.hints more.hints from.hints to.hints at.hints whole.hints)
    (slice_range-behind lists.parts more.parts from.parts to.parts at.parts whole.parts)

-- a step more
pub steps_from-push : (from : End) (lists more : Lists) (ends : List End) (to : End) → AreEnds from ends lists
    → IsGrown lists more to
    → steps_from from (grown lists more) (ends ++ to ∷ [])
    ≡ steps_from from lists ends ++ step_made to.divisor more ∷ []
steps_from-push from lists more [] to is whole = ap (λ (step : Step). step ∷ [])
    (step_between-added lists more from to is whole)
steps_from-push from lists more (e ∷ ends) to is whole =
    ap (λ (step : Step). step ∷ steps_from e (grown lists more) (ends ++ to ∷ []))
    (step_between-grown lists more from e is.0 (AreEnds-within e ends lists is.1))
    ∙ ap (λ (steps : List Step). step_between lists from e ∷ steps) (steps_from-push e lists more ends to is.1 whole)

pub AreEnds-push : (from : End) (lists more : Lists) (ends : List End) (to : End) → AreEnds from ends lists
    → IsGrown lists more to → AreEnds from (ends ++ to ∷ []) (grown lists more)
AreEnds-push from lists more [] to is whole = (
  record { lits = omega arith; hints = omega arith; parts = omega arith },
  record {
    lits = whole.lits ∙ sym (length-append lists.lits more.lits);
    hints = whole.hints ∙ sym (length-append lists.hints more.hints);
    parts = whole.parts ∙ sym (length-append lists.parts more.parts);
  },
)
AreEnds-push from lists more (e ∷ ends) to is whole = (is.0, AreEnds-push e lists more ends to is.1 whole)

-- a step more is kept
pub AreKept-push : (lists more : Lists) (ends : List End) (to : End) → AreKept lists ends → IsGrown lists more to
    → All (λ part. 1 ≤ part.factor) more.parts → AreKept (grown lists more) (ends ++ to ∷ [])
AreKept-push lists more ends to kept whole factors = record {
  ended = AreEnds-push front lists more ends to kept.ended whole;
  factors = All-append (λ (part : Part). 1 ≤ part.factor) lists.parts more.parts kept.factors factors;
}

-- the lists and the ends as they are after a step was added
pub record IsPushed (lists more now : Lists) (ends ends' : List End) (to : End) : Type 0 where
  pub lits : now.lits ≡ lists.lits ++ more.lits
  pub hints : now.hints ≡ lists.hints ++ more.hints
  pub parts : now.parts ≡ lists.parts ++ more.parts
  pub added : ends' ≡ ends ++ to ∷ []
  pub whole : IsWhole now to

pushed : (lists more now : Lists) (ends ends' : List End) (to : End) → IsPushed lists more now ends ends' to
    → IsGrown lists more to
pushed lists more now ends ends' to is = record {
  lits = is.whole.lits ∙ ap length is.lits ∙ length-append lists.lits more.lits;
  hints = is.whole.hints ∙ ap length is.hints ∙ length-append lists.hints more.hints;
  parts = is.whole.parts ∙ ap length is.parts ∙ length-append lists.parts more.parts;
}

grown-pushed : (lists more now : Lists) (ends ends' : List End) (to : End) → IsPushed lists more now ends ends' to
    → grown lists more ≡ now
grown-pushed lists more now ends ends' to is =
    ap (λ (xs : List Literal). let all : Lists = record {
      lits = xs;
      hints = lists.hints ++ more.hints;
      parts =
          lists.parts ++ more.parts;
    } in all) (sym is.lits)
    ∙ ap (λ (xs : List ℕ). let all : Lists = record {
      lits = now.lits;
      hints = xs;
      parts =
          lists.parts ++ more.parts;
    } in all) (sym is.hints)
    ∙ ap (λ (xs : List Part). let all : Lists = record { lits = now.lits; hints = now.hints; parts = xs } in all)
    (sym is.parts)

pub AreKept-pushed : (lists more now : Lists) (ends ends' : List End) (to : End) → AreKept lists ends
    → IsPushed lists more now ends ends' to → All (λ part. 1 ≤ part.factor) more.parts → AreKept now ends'
AreKept-pushed lists more now ends ends' to kept is factors =
    subst (λ (all : Lists). AreKept all ends') (grown-pushed lists more now ends ends' to is)
    (subst (λ (es : List End). AreKept (grown lists more) es) (sym is.added)
    (AreKept-push lists more ends to kept (pushed lists more now ends ends' to is) factors))

pub steps_from-pushed : (lists more now : Lists) (ends ends' : List End) (steps : List Step) (to : End)
    → AreKept lists ends → steps_from front lists ends ≡ steps → IsPushed lists more now ends ends' to
    → steps_from front now ends' ≡ steps ++ step_made to.divisor more ∷ []
steps_from-pushed lists more now ends ends' steps to kept seen is =
    ap (λ (all : Lists). steps_from front all ends') (sym (grown-pushed lists more now ends ends' to is))
    ∙ ap (λ (es : List End). steps_from front (grown lists more) es) is.added
    ∙ steps_from-push front lists more ends to kept.ended (pushed lists more now ends ends' to is)
    ∙ ap (λ (xs : List Step). xs ++ step_made to.divisor more ∷ []) seen

-- a step with a divisor from 1 is linear
pub step_made-linear : (divisor : ℕ) (lists : Lists) → 1 ≤ divisor
    → step_made divisor lists ≡ Linear lists.parts divisor
step_made-linear zero lists some = absurd (omega arith)
step_made-linear (suc n) lists some = let is : (suc n == 0) ≡ false = grind (arith, nat_tests) in rw is refl

-- there are as many steps as ends
length-steps_from : (from : End) (lists : Lists) (ends : List End) → length (steps_from from lists ends) ≡ length ends
length-steps_from from lists [] = refl
length-steps_from from lists (to ∷ ends) = ap suc (length-steps_from to lists ends)

pub length-kept : (lists : Lists) (ends : List End) (steps : List Step) → steps_from front lists ends ≡ steps
    → length steps ≡ length ends
length-kept lists ends steps same = omega (arith, ap length same, length-steps_from front lists ends)

-- ---- the step at a place

-- what is kept of the step at place k, which ends here
pub record IsStepAt (from : End) (lists : Lists) (ends : List End) (k : ℕ) (to : End) : Type 0 where
  pub order : IsBehind (end_before from ends k) to
  pub inside : IsWithin to lists
  pub is : slice_get (steps_from from lists ends) k ≡ Some (step_between lists (end_before from ends k) to)

pub step_at : (from : End) (lists : Lists) (ends : List End) (k : ℕ) (to : End) → AreEnds from ends lists
    → slice_get ends k ≡ Some to → IsStepAt from lists ends k to
step_at from lists [] k to is there = cc
step_at from lists (e ∷ ends) zero to is there =
    let same : e ≡ to = cc in
    let P : End → Type 0 = λ (x : End). IsStepAt from lists (e ∷ ends) zero x in
    subst P same (record { order = is.0; inside = AreEnds-within e ends lists is.1; is = refl })
step_at from lists (e ∷ ends) (suc k) to is there =
    let at : IsStepAt e lists ends k to = step_at e lists ends k to is.1 there in
    record { order = at.order; inside = at.inside; is = at.is }

-- a step by its divisor
positive : (n : ℕ) → (suc n == 0) ≡ false
positive n = grind (arith, nat_tests)

kind_of-made : (divisor : ℕ) (lists : Lists) → kind_of (step_made divisor lists)
    ≡ (if divisor == 0 then kinds.Clause else kinds.Linear)
kind_of-made zero lists = refl
kind_of-made (suc n) lists = rw (positive n) refl

clause_of-made : (divisor : ℕ) (lists : Lists) → kind_of (step_made divisor lists) ≡ kinds.Clause
    → clause_of (step_made divisor lists) ≡ lists.lits
clause_of-made zero lists kind = refl
clause_of-made (suc n) lists kind = let linear = rw (positive n) at kind in cc

hints_of-made : (divisor : ℕ) (lists : Lists) → kind_of (step_made divisor lists) ≡ kinds.Clause
    → hints_of (step_made divisor lists) ≡ lists.hints
hints_of-made zero lists kind = refl
hints_of-made (suc n) lists kind = let linear = rw (positive n) at kind in cc

parts_of-made : (divisor : ℕ) (lists : Lists) → kind_of (step_made divisor lists) ≡ kinds.Linear
    → parts_of (step_made divisor lists) ≡ lists.parts
parts_of-made zero lists kind = cc
parts_of-made (suc n) lists kind = rw (positive n) refl

divisor_of-made : (divisor : ℕ) (lists : Lists) → kind_of (step_made divisor lists) ≡ kinds.Linear
    → (divisor_of (step_made divisor lists) ≡ divisor) × (1 ≤ divisor)
divisor_of-made zero lists kind = cc
divisor_of-made (suc n) lists kind = (rw (positive n) refl, omega arith)

-- ---- what is read at a place

-- the step that lies between two ends
pub record IsFound (lists : Lists) (steps : List Step) (k : ℕ) (from to : End) : Type 0 where
  pub order : IsBehind from to
  pub inside : IsWithin to lists
  pub is : slice_get steps k ≡ Some (step_between lists from to)

pub found : (lists : Lists) (ends shown : List End) (steps : List Step) (k : ℕ) (from to : End)
    → AreKept lists ends → steps_from front lists ends ≡ steps
    → shown ≡ ends → from ≡ end_before front shown k → slice_get shown k ≡ Some to → IsFound lists steps k from to
found lists ends shown steps k from to kept seen same begins stops =
    let stop : slice_get ends k ≡ Some to = rw same at stops in
    let at : IsStepAt front lists ends k to = step_at front lists ends k to kept.ended stop in
    let begin : from ≡ end_before front ends k = rw same at begins in
    let P : End → Type 0 = λ (x : End). IsFound lists steps k x to in
    let Q : List Step → Type 0 = λ (xs : List Step). IsFound lists xs k (end_before front ends k) to in
    subst P (sym begin) (subst Q seen (record { order = at.order; inside = at.inside; is = at.is }))

-- the lists between the two ends
abbrev pub lists_between : Lists → End → End → Lists
lists_between lists from to = record {
  lits = slice_range lists.lits from.lits to.lits;
  hints = slice_range lists.hints from.hints to.hints;
  parts = slice_range lists.parts from.parts to.parts;
}

pub kind-read : (lists : Lists) (steps : List Step) (k : ℕ) (from to : End) → IsFound lists steps k from to
    → kind_at steps k ≡ (if to.divisor == 0 then kinds.Clause else kinds.Linear)
kind-read lists steps k from to at = rw at.is (kind_of-made to.divisor (lists_between lists from to))

pub clause-read : (lists : Lists) (steps : List Step) (k : ℕ) (from to : End) → IsFound lists steps k from to
    → kind_at steps k ≡ kinds.Clause → slice_range lists.lits from.lits to.lits ≡ clause_at steps k
clause-read lists steps k from to at kind =
    let here = rw at.is at kind in
    rw at.is (sym (clause_of-made to.divisor (lists_between lists from to) here))

pub hints-read : (lists : Lists) (steps : List Step) (k : ℕ) (from to : End) → IsFound lists steps k from to
    → kind_at steps k ≡ kinds.Clause → slice_range lists.hints from.hints to.hints ≡ hints_at steps k
hints-read lists steps k from to at kind =
    let here = rw at.is at kind in
    rw at.is (sym (hints_of-made to.divisor (lists_between lists from to) here))

pub parts-read : (lists : Lists) (steps : List Step) (k : ℕ) (from to : End) → IsFound lists steps k from to
    → kind_at steps k ≡ kinds.Linear → slice_range lists.parts from.parts to.parts ≡ parts_at steps k
parts-read lists steps k from to at kind =
    let here = rw at.is at kind in
    rw at.is (sym (parts_of-made to.divisor (lists_between lists from to) here))

pub divisor-read : (lists : Lists) (steps : List Step) (k : ℕ) (from to : End) → IsFound lists steps k from to
    → kind_at steps k ≡ kinds.Linear → (to.divisor ≡ divisor_at steps k) × (1 ≤ to.divisor)
divisor-read lists steps k from to at kind =
    let here = rw at.is at kind in
    let made = divisor_of-made to.divisor (lists_between lists from to) here in
    (rw at.is (sym made.0), made.1)

pub factors-read : (lists : Lists) (from to : End) → All (λ part. 1 ≤ part.factor) lists.parts
    → All (λ part. 1 ≤ part.factor) (slice_range lists.parts from.parts to.parts)
factors-read lists from to factors =
    All-take (λ (part : Part). 1 ≤ part.factor) (to.parts - from.parts) (drop from.parts lists.parts)
    (All-drop (λ (part : Part). 1 ≤ part.factor) from.parts lists.parts factors)

-- ---- ends that are read

end_before-suc : (from : End) (ends : List End) (k : ℕ) (d : End) → suc k < length ends
    → end_before from ends (suc k) ≡ get_or ends k d
end_before-suc from [] k d there = absurd (omega arith)
end_before-suc from (e ∷ ends) zero d there = refl
end_before-suc from (e ∷ ends) (suc k) d there = end_before-suc e ends k d (omega arith)

-- where a step begins, by the end before it
pub end_before-get_or : (ends : List End) (k : ℕ) (d : End) → k ≢ 0 → k < length ends
    → get_or ends (k - 1) d ≡ end_before front ends k
end_before-get_or ends zero d some there = absurd (some refl)
end_before-get_or ends (suc k) d some there =
    let one_less : suc k - 1 ≡ k = omega arith in
    ap (λ (j : ℕ). get_or ends j d) one_less ∙ sym (end_before-suc front ends k d there)
