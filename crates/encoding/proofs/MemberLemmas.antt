-- Whether a number is one of a set's.
use Rattle.std.proofs.Common.{◌≡◌, ℕ, Bool, true, false, ◌==◌, ◌↔◌, List, get_or, refl, sym, ◌∙◌, arith, Contains, IsTrue}
use Rattle.std.proofs.lemmas.Bool.Decides.{nat_tests}
use Rattle.std.proofs.lemmas.List.{get_or_default}
use Rattle.std.proofs.lemmas.List.Folds.{list_any-from_Any, list_any_none}
use Rattle.league.specs.Sets.{is_in}

itself : (x : ℕ) → (x == x) ≡ true
itself x = grind (arith, nat_tests)

another : (y x : ℕ) → (y ≡ x → ⊥) → (y == x) ≡ false
another y x differ = grind (arith, nat_tests)

-- a test that says so says what the definition does
pub is_in-tells : (answer : Bool) (x : ℕ) (xs : List ℕ) → IsTrue answer ↔ Contains xs x → answer ≡ is_in x xs
is_in-tells true x xs tells =
    let there : Contains xs x = tells.0 refl in
    sym (list_any-from_Any (λ y. y == x) xs (there.0, x, there.1, there.2, itself x))
is_in-tells false x xs tells =
    sym (list_any_none (λ y. y == x) xs (λ k d lt. another (get_or xs k d) x (λ same. let told : false ≡ true = tells.1 (k, lt, get_or_default xs k x d lt ∙ same) in absurd (cc))))
