-- Tests that some of a list pass, where all of it satisfies a fact; marks of one game more, and of none.
use Rattle.std.proofs.Common.{◌≡◌, ℕ, zero, suc, ◌+◌, ◌-◌, ◌<◌, Bool, true, false, ◌&&◌, ◌||◌}
use Rattle.std.proofs.Common.{nat_lt, List, [], ◌∷◌, length, take, get_or}
use Rattle.std.proofs.Common.{refl, arith, ap, ◌∙◌, sym, replicate}
use Rattle.std.proofs.lemmas.Bool.Decides.{nat_tests}
use Rattle.std.proofs.lemmas.List.Elements.{All-head, All-tail}
use Rattle.std.proofs.lemmas.List.Folds.{list_any_more, list_any_none}
use Rattle.std.proofs.lemmas.List.Sums.{sum_by-cons}
use Rattle.std.specs.List.{All, count_by, list_any, sum_by}
use Rattle.league.specs.declared.game.Game.{Game}
use Rattle.league.proofs.RangeLemmas.{one_if}
use Rattle.rows.specs.Values.{assigned}

-- two tests that pass together
pub same_tests : (a b : Bool) → (a ≡ true → b ≡ true) → (b ≡ true → a ≡ true) → a ≡ b
same_tests true b there back = sym (there refl)
same_tests false true there back = back refl
same_tests false false there back = refl

module _ {X : Type 0} (P : X → Type 0) where
  -- tests and sums that agree at each element
  pub list_any-agree : (p q : X → Bool) → ((x : X) → P x → p x ≡ q x) → (xs : List X) → All P xs →
      list_any p xs ≡ list_any q xs
  list_any-agree p q same [] all = refl
  list_any-agree p q same (x ∷ xs) all =
      ap (λ (b : Bool). b || list_any p xs) (same x (All-head P x xs all))
      ∙ ap (λ (b : Bool). q x || b) (list_any-agree p q same xs (All-tail P x xs all))

  pub list_any-never : (p : X → Bool) → ((x : X) → P x → p x ≡ false) → (xs : List X) → All P xs →
      list_any p xs ≡ false
  list_any-never p never xs all = list_any_none p xs (λ k d within. never (get_or xs k d) (all k d within))

  pub sum_by-agree_all : (f g : X → ℕ) → ((x : X) → P x → f x ≡ g x) → (xs : List X) → All P xs →
      sum_by f xs ≡ sum_by g xs
  sum_by-agree_all f g same [] all = refl
  sum_by-agree_all f g same (x ∷ xs) all =
      omega (
        arith,
        sum_by-cons f x xs,
        sum_by-cons g x xs,
        same x (All-head P x xs all),
        sum_by-agree_all f g same
            xs (All-tail P x xs all),
      )

-- some pass where their number isn't 0
counted_more : (b : Bool) (count : ℕ) → nat_lt 0 (one_if b + count) ≡ (b || nat_lt 0 count)
counted_more true count = grind (arith, nat_tests)
counted_more false count = grind (arith, nat_tests)

pub list_any-counted : {X : Type 0} (p : X → Bool) (xs : List X) → list_any p xs ≡ nat_lt 0 (count_by p xs)
list_any-counted p [] = refl
list_any-counted p (x ∷ xs) =
    ap (λ (b : Bool). p x || b) (list_any-counted p xs)
    ∙ sym (counted_more (p x) (count_by p xs))
    ∙ ap (λ (k : ℕ). nat_lt 0 k) (sym (sum_by-cons (λ y. one_if (p y)) x xs))

-- a test that all share
pub list_any-both : {X : Type 0} (p : X → Bool) (b : Bool) (xs : List X) →
    list_any (λ x. p x && b) xs ≡ (list_any p xs && b)
list_any-both p true [] = refl
list_any-both p false [] = refl
list_any-both p b (x ∷ xs) = ap (λ (c : Bool). (p x && b) || c) (list_any-both p b xs) ∙ both (p x) (list_any p xs) b
  where
    both : (c d e : Bool) → ((c && e) || (d && e)) ≡ ((c || d) && e)
    both c d e = grind arith

-- the marks of one game more
pub marked_more : (p : Game → Bool) (games : List Game) (i : ℕ) (d : Game) (before now initial : Bool) →
    i < length games →
    before ≡ (list_any p (take i games) || initial) → now ≡ (p (get_or games i d) || before) →
    now ≡ (list_any p (take (i + 1) games) || initial)
marked_more p games i d before now initial within so_far step =
    step
    ∙ ap (λ (b : Bool). p (get_or games i d) || b) so_far
    ∙ turned (p (get_or games i d)) (list_any p (take i games)) initial
    ∙ ap (λ (b : Bool). b || initial) (sym (list_any_more p games i d within)) where
      turned : (a b c : Bool) → (a || (b || c)) ≡ ((b || a) || c)
      turned a b c = grind arith

-- nothing is true at first
pub assigned-empty : (count : ℕ) (values : List Bool) → values ≡ replicate count false → (v : ℕ) →
    assigned values v ≡ false
assigned-empty count values is v = ap (λ (xs : List Bool). assigned xs v) is ∙ none_at count (v - 1) where
  none_at : (size i : ℕ) → get_or {A = Bool} (replicate size false) i false ≡ false
  none_at zero i = refl
  none_at (suc size) zero = refl
  none_at (suc size) (suc i) = none_at size i
