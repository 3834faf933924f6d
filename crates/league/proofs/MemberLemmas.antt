-- Whether a number is one of a list.
use Rattle.std.proofs.Common.{◌≡◌, ◌≢◌, ℕ, ◌<◌, true, false, ◌==◌, List, length, get_or, arith, ◌∙◌}
use Rattle.std.proofs.lemmas.Bool.Decides.{nat_tests}
use Rattle.std.proofs.lemmas.List.{get_or_default}
use Rattle.std.proofs.lemmas.List.Folds.{list_any-from_Any, list_any_none}
use Rattle.std.specs.List.{All}
use Rattle.league.specs.Sets.{is_in}

-- a number that isn't one of these
pub is_in-no : (i : ℕ) (xs : List ℕ) → All (λ t. t ≢ i) xs → is_in i xs ≡ false
is_in-no i xs differ = list_any_none (λ t. t == i) xs (λ k d lt. same_fails (get_or xs k d) i (differ k d lt)) where
  same_fails : (a b : ℕ) → a ≢ b → (a == b) ≡ false
  same_fails a b h = grind (arith, nat_tests)

-- a number that is one of these
pub is_in-yes : (i : ℕ) (xs : List ℕ) (k : ℕ) → k < length xs → get_or xs k 0 ≡ i → is_in i xs ≡ true
is_in-yes i xs k within is = list_any-from_Any (λ t. t == i) xs (k, i, within, get_or_default xs k i 0 within ∙ is, itself i) where
  itself : (a : ℕ) → (a == a) ≡ true
  itself a = grind (arith, nat_tests)

-- a number that fails the test is none of these
pub is_in-lacks : (i : ℕ) (xs : List ℕ) → is_in i xs ≡ false → All (λ t. t ≢ i) xs
is_in-lacks i xs out k d lt same =
    let at : is_in i xs ≡ true = is_in-yes i xs k lt (get_or_default xs k 0 d lt ∙ same) in
    absurd (cc)
