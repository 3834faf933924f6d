-- The test that a list ascends without repeats means so.
use Rattle.std.proofs.Common.{◌≡◌, zero, suc, Bool, true, false, ◌&&◌, List, [], ◌∷◌, get_or, refl, arith, ap}
use Rattle.std.proofs.lemmas.List.Kept.{AllPairs-cons}
use Rattle.std.proofs.lemmas.List.Sums.{AllPass-from_list_all, list_all-from_AllPass}
use Rattle.std.specs.Cmp.Derive.{both_true}
use Rattle.std.specs.List.{list_all}
use Rattle.std.specs.Ordering.{is_lt}
use Rattle.std.specs.declared.cmp.Ordering.{Ordering}
use Rattle.std.specs.declared.cmp.Ordering.TheVariants.{Less, Equal, Greater}
use Rattle.league.specs.Sets.{IsAscending, ascends}

is_lt-less : (o : Ordering) → is_lt o ≡ true → o ≡ Less
is_lt-less Less h = refl
is_lt-less Equal h = absurd (cc)
is_lt-less Greater h = absurd (cc)

-- both parts of a test that passes
pub first_true : (a b : Bool) → (a && b) ≡ true → a ≡ true
first_true true b h = refl
first_true false b h = absurd (cc)

pub second_true : (a b : Bool) → (a && b) ≡ true → b ≡ true
second_true true b h = h
second_true false b h = absurd (cc)

-- a test that says the same as another with a test that passes
pub and_passes : (a b c : Bool) → a ≡ b → c ≡ true → a ≡ (b && c)
and_passes true true true same passes = refl
and_passes false false c same passes = refl
and_passes true false c same passes = absurd (cc)
and_passes false true c same passes = absurd (cc)
and_passes true true false same passes = absurd (cc)

module _ {X : Type 0} (cmp : X → X → Ordering) where
  -- what ascends passes the test
  pub ascends-true : (xs : List X) → IsAscending cmp xs → ascends cmp xs ≡ true
  ascends-true [] ascending = refl
  ascends-true (x ∷ xs) ascending =
      both_true
      (list_all-from_AllPass (λ y. is_lt (cmp x y)) xs (λ k d h. ap is_lt (ascending zero (suc k) d (omega arith) (omega arith))))
      (ascends-true xs (λ i j d h k. ascending (suc i) (suc j) d (omega arith) (omega arith)))

  -- what passes the test ascends
  pub IsAscending-ascends : (xs : List X) → ascends cmp xs ≡ true → IsAscending cmp xs
  IsAscending-ascends [] passes = λ i j d h k. absurd (omega arith)
  IsAscending-ascends (x ∷ xs) passes =
      AllPairs-cons (λ a b. cmp a b ≡ Less) x xs
      (λ k d h. is_lt-less (cmp x (get_or xs k d)) (AllPass-from_list_all (λ y. is_lt (cmp x y)) xs (first_true (list_all (λ y. is_lt (cmp x y)) xs) (ascends cmp xs) passes) k d h))
      (IsAscending-ascends xs (second_true (list_all (λ y. is_lt (cmp x y)) xs) (ascends cmp xs) passes))
