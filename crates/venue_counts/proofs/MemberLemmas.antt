-- What is in a list that is mapped, joined or filtered, and what stands at a place of a joined one.
use Rattle.std.proofs.Common.{◌≡◌, ℕ, zero, suc, ◌+◌, Bool, true, ◌==◌, List, [], ◌∷◌, ◌++◌, length, get_or, take, drop}
use Rattle.std.proofs.Common.{Some, inl, inr, refl, arith, ap, sym, subst, ◌∙◌}
use Rattle.std.specs.Prelude.{Contains, slice_get}
use Rattle.std.specs.List.{filter, list_any}
use Rattle.std.proofs.lemmas.Bool.{cond-true, cond_both, eqb-true, or_cases, or_left, or_right}
use Rattle.std.proofs.lemmas.List.Folds.{Any-from_list_any}
use Rattle.league.specs.Sets.{is_in}

pub Contains-filter : {X : Type 0} (p : X → Bool) (xs : List X) (x : X) → Contains xs x → p x ≡ true
    → Contains (filter p xs) x
Contains-filter p [] x (k, within, is) passes = absurd (omega (arith, within))
Contains-filter {X} p (first ∷ xs) x (zero, within, is) passes =
    let kept : filter p (first ∷ xs) ≡ first ∷ filter p xs =
    cond-true (p first) (first ∷ filter p xs) (filter p xs) (ap p is ∙ passes) in
    subst (λ (ys : List X). Contains ys x) (sym kept) (zero, omega arith, is)
Contains-filter {X} p (first ∷ xs) x (suc k, within, is) passes =
    let rest = Contains-filter p xs x (k, omega (arith, within), is) passes in
    cond_both (p first) (first ∷ filter p xs) (filter p xs) (λ (ys : List X). Contains ys x)
    (λ yes. (suc rest.0, omega (arith, rest.1), rest.2)) (λ no. rest)

-- a number that passes the test is in the list
pub Contains-from_is_in : (i : ℕ) (xs : List ℕ) → is_in i xs ≡ true → Contains xs i
Contains-from_is_in i xs is =
    let found = Any-from_list_any (λ y. y == i) xs is in
    let same : found.1 ≡ i = eqb-true found.1 i found.4 in
    (found.0, found.2, subst (λ (y : ℕ). get_or xs found.0 y ≡ y) same found.3)

-- a test that follows from another at each element
pub any-implied : {X : Type 0} (p q : X → Bool) → ((x : X) → p x ≡ true → q x ≡ true) → (xs : List X)
    → list_any p xs ≡ true → list_any q xs ≡ true
any-implied p q implied [] is = is
any-implied p q implied (x ∷ xs) is =
    elim (or_cases (p x) (list_any p xs) is) [
      | inl here ↦ or_left (q x) (list_any q xs) (implied x here)
      | inr later ↦ or_right (q x) (list_any q xs) (any-implied p q implied xs later)
    ]

-- ---- what stands at a place

pub got-left : {X : Type 0} (xs ys : List X) (k : ℕ) (x : X) → slice_get xs k ≡ Some x → slice_get (xs ++ ys) k ≡ Some x
got-left [] ys k x is = absurd (cc)
got-left (y ∷ xs) ys zero x is = is
got-left (y ∷ xs) ys (suc k) x is = got-left xs ys k x is

pub got-right : {X : Type 0} (xs ys : List X) (j k : ℕ) (x : X) → j ≡ length xs + k → slice_get ys k ≡ Some x
    → slice_get (xs ++ ys) j ≡ Some x
got-right [] ys j k x at is =
    let same : j ≡ k = omega (arith, at) in
    ap (slice_get ys) same ∙ is
got-right (y ∷ xs) ys zero k x at is = absurd (omega (arith, at))
got-right (y ∷ xs) ys (suc j) k x at is = got-right xs ys j k x (omega (arith, at)) is

pub got-last : {X : Type 0} (xs : List X) (x : X) (k : ℕ) → k ≡ length xs → slice_get (xs ++ x ∷ []) k ≡ Some x
got-last xs x k at = got-right xs (x ∷ []) k 0 x (omega (arith, at)) refl

-- the part of a list that has only this item
pub got-alone : {X : Type 0} (xs : List X) (k : ℕ) (x : X) → slice_get xs k ≡ Some x → take 1 (drop k xs) ≡ x ∷ []
got-alone [] k x is = absurd (cc)
got-alone {X} (y ∷ xs) zero x is = let same : y ≡ x = cc in ap (λ (z : X). z ∷ []) same
got-alone (y ∷ xs) (suc k) x is = got-alone xs k x is
