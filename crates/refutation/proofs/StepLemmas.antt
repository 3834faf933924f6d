-- Steps at places.
use Rattle.std.proofs.Common.{◌≡◌, ℕ, zero, suc, ◌+◌, ◌<◌, ◌&&◌, ◌||◌, Bool, true, false, List, [], ◌∷◌, ◌++◌}
use Rattle.std.proofs.Common.{length, take, Option, Some, None, refl, arith, ap, sym, subst, ◌∙◌}
use Rattle.std.specs.Prelude.{slice_get, IfSome, IsTrue, ◌↔◌}
use Rattle.std.specs.List.{All, flat_map, list_any}
use Rattle.std.proofs.lemmas.List.{flat_map_more}
use Rattle.std.proofs.lemmas.List.Elements.{All-push}
use Rattle.refutation.specs.Steps.{Step, kind_at, clause_at, hints_at, parts_at, divisor_at}
use Rattle.refutation.specs.Steps.Step.{Clause, Linear}
use Rattle.refutation.specs.declared.step.StepKind.TheVariants as kinds

-- the clause step at a place
pub slice_get-clause : (steps : List Step) (k : ℕ) → k < length steps → kind_at steps k ≡ kinds.Clause
    → slice_get steps k ≡ Some (Clause (clause_at steps k) (hints_at steps k))
slice_get-clause [] k there kind = absurd (omega arith)
slice_get-clause (Clause clause hints ∷ steps) zero there kind = refl
slice_get-clause (Linear parts divisor ∷ steps) zero there kind = cc
slice_get-clause (step ∷ steps) (suc k) there kind = slice_get-clause steps k (omega arith) kind

-- the linear step at a place
pub slice_get-linear : (steps : List Step) (k : ℕ) → k < length steps → kind_at steps k ≡ kinds.Linear
    → slice_get steps k ≡ Some (Linear (parts_at steps k) (divisor_at steps k))
slice_get-linear [] k there kind = absurd (omega arith)
slice_get-linear (Clause clause hints ∷ steps) zero there kind = cc
slice_get-linear (Linear parts divisor ∷ steps) zero there kind = refl
slice_get-linear (step ∷ steps) (suc k) there kind = slice_get-linear steps k (omega arith) kind

-- ---- tests

pub both : (a b : Bool) → a && b ≡ true → (a ≡ true) × (b ≡ true)
both true b is = (refl, is)
both false b is = cc

pub neither : (a b : Bool) → a || b ≡ false → (a ≡ false) × (b ≡ false)
neither true b is = cc
neither false b is = (refl, is)

or_right : (a b : Bool) → b ≡ true → a || b ≡ true
or_right true b is = refl
or_right false b is = is

-- ---- lists as far as a loop has come

-- the item at a place
got : {X : Type 0} (xs : List X) (k : ℕ) → k < length xs → (x : X) × (slice_get xs k ≡ Some x)
got {X} [] k there = absurd (omega arith)
got {X} (x ∷ xs) zero there = (x, refl)
got {X} (x ∷ xs) (suc k) there = got xs k (omega arith)

-- a front that is one longer ends in it
take-got : {X : Type 0} (xs : List X) (k : ℕ) (x : X) → slice_get xs k ≡ Some x → take (k + 1) xs ≡ take k xs ++ x ∷ []
take-got {X} [] k x is = cc
take-got {X} (y ∷ xs) zero x is = let same : y ≡ x = cc in ap (λ (z : X). z ∷ []) same
take-got {X} (y ∷ xs) (suc k) x is =
    let one_more : suc k + 1 ≡ suc (k + 1) = omega arith in
    rw one_more (ap (λ (ys : List X). y ∷ ys) (take-got xs k x is))

pub if_some : {X : Type 0} (o : Option X) (x : X) (P : X → Type 0) → o ≡ Some x → P x → IfSome o P
if_some {X} o x P is holds = subst (λ (p : Option X). IfSome p P) (sym is) holds

from_if_some : {X : Type 0} (o : Option X) (x : X) (P : X → Type 0) → o ≡ Some x → IfSome o P → P x
from_if_some {X} o x P is holds = subst (λ (p : Option X). IfSome p P) is holds

-- what holds where a test is true
pub if_some-true : {X : Type 0} (o : Option X) (b : Bool) (P : X → Type 0) → b ≡ true
    → IfSome o (λ x. IsTrue b ↔ P x) → IfSome o P
if_some-true {X} None b P is holds = tt
if_some-true {X} (Some x) b P is holds = holds.0 is

pub All-got : {X : Type 0} (P : X → Type 0) (xs : List X) (k : ℕ) (x : X) → slice_get xs k ≡ Some x
    → All P (take k xs) → P x → All P (take (k + 1) xs)
All-got {X} P xs k x is before holds = subst (All P) (sym (take-got xs k x is)) (All-push P (take k xs) x before holds)

pub All-at : {X : Type 0} (P : X → Type 0) (xs : List X) (k : ℕ) → k < length xs → All P (take k xs)
    → IfSome (slice_get xs k) P → All P (take (k + 1) xs)
All-at {X} P xs k there before holds =
    let at = got xs k there in
    All-got P xs k at.0 at.1 before (from_if_some (slice_get xs k) at.0 P at.1 holds)

-- a text that is one piece longer
pub text-got : {X : Type 0} (f : X → List ℕ) (xs : List X) (k : ℕ) (x : X) (old new whole : List ℕ)
    → slice_get xs k ≡ Some x
    → new ≡ old ++ f x → old ≡ whole ++ flat_map f (take k xs) → new ≡ whole ++ flat_map f (take (k + 1) xs)
text-got {X} f xs k x old new whole is added was =
    added ∙ ap (λ (text : List ℕ). text ++ f x) was ∙ flat_map_more f whole (take k xs) x
    ∙ ap (λ (ys : List X). whole ++ flat_map f ys) (sym (take-got xs k x is))

pub text-at : {X : Type 0} (f : X → List ℕ) (xs : List X) (k : ℕ) (old new whole : List ℕ) → k < length xs
    → IfSome (slice_get xs k) (λ x. new ≡ old ++ f x) → old ≡ whole ++ flat_map f (take k xs)
    → new ≡ whole ++ flat_map f (take (k + 1) xs)
text-at {X} f xs k old new whole there added was =
    let at = got xs k there in
    text-got f xs k at.0 old new whole at.1 (from_if_some (slice_get xs k) at.0
    (λ (x : X). new ≡ old ++ f x) at.1 added) was

-- a test that no item passed
list_any-push : {X : Type 0} (test : X → Bool) (xs : List X) (x : X) → list_any test xs ≡ false → test x ≡ false
    → list_any test (xs ++ x ∷ []) ≡ false
list_any-push {X} test [] x none fails = rw fails refl
list_any-push {X} test (y ∷ xs) x none fails =
    let parts = neither (test y) (list_any test xs) none in
    rw parts.0 (list_any-push test xs x parts.1 fails)

pub list_any-none : {X : Type 0} (test : X → Bool) (xs : List X) (k : ℕ) → k < length xs
    → list_any test (take k xs) ≡ false → IfSome (slice_get xs k) (λ x. false ≡ test x)
    → list_any test (take (k + 1) xs) ≡ false
list_any-none {X} test xs k there none fails =
    let at = got xs k there in
    ap (list_any test) (take-got xs k at.0 at.1)
    ∙ list_any-push test (take k xs) at.0 none (sym
    (from_if_some (slice_get xs k) at.0 (λ (x : X). false ≡ test x) at.1 fails))

-- a test that an item passes
list_any-passed : {X : Type 0} (test : X → Bool) (xs : List X) (k : ℕ) (x : X) → slice_get xs k ≡ Some x
    → test x ≡ true → list_any test xs ≡ true
list_any-passed {X} test [] k x is passes = cc
list_any-passed {X} test (y ∷ xs) zero x is passes =
    let same : y ≡ x = cc in
    ap (λ (z : X). test z || list_any test xs) same ∙ ap (λ (b : Bool). b || list_any test xs) passes
list_any-passed {X} test (y ∷ xs) (suc k) x is passes =
    or_right (test y) (list_any test xs) (list_any-passed test xs k x is passes)

pub list_any-some : {X : Type 0} (test : X → Bool) (xs : List X) (k : ℕ) → k < length xs
    → IfSome (slice_get xs k) (λ x. true ≡ test x) → list_any test xs ≡ true
list_any-some {X} test xs k there passes =
    let at = got xs k there in
    list_any-passed test xs k at.0 at.1 (sym (from_if_some (slice_get xs k) at.0
    (λ (x : X). true ≡ test x) at.1 passes))
