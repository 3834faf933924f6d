-- Ranges read from the front, and parts over ranges that grow.
use Rattle.std.proofs.Common.{◌≡◌, ℕ, suc, ◌+◌, ◌-◌, ◌<◌, Bool, true, false, ◌||◌, cond, List, [], ◌∷◌, ◌++◌, refl, sym, ap, ◌∙◌, arith, append_assoc, zero-add}
use Rattle.std.specs.List.{flat_map, fold, list_any, prefix_len, range_with_len}
use Rattle.std.proofs.lemmas.List.{append-nil}
use Rattle.std.proofs.lemmas.Grind.{flat_map-append}
use Rattle.std.proofs.lemmas.List.Sums.{fold_push}
use Rattle.league.proofs.RangeLemmas.{range_with_len-more}

-- what is left of the numbers below n, from one on
abbrev pub from_on : ℕ → ℕ → List ℕ
from_on a n = range_with_len a (n - a)

pub from_on-cons : (a n : ℕ) → a < n → from_on a n ≡ a ∷ from_on (a + 1) n
from_on-cons a n h = let more : n - a ≡ suc (n - (a + 1)) = omega arith in rw more refl

-- ---- the first number that fails a test: the numbers before one pass

-- one number more that passes
pub passed_one : (p : ℕ → Bool) (a n whole : ℕ) → a < n → p a ≡ true → a + prefix_len p (from_on a n) ≡ whole → (a + 1) + prefix_len p (from_on (a + 1) n) ≡ whole
passed_one p a n whole h passes so_far =
    let here : prefix_len p (from_on a n) ≡ 1 + prefix_len p (from_on (a + 1) n) =
    ap (prefix_len p) (from_on-cons a n h) ∙ ap (λ b. cond b (1 + prefix_len p (from_on (a + 1) n)) 0) passes in
    omega (arith, here, so_far)

-- ---- whether any number passes a test

-- what is asked of the numbers from one on that fails it, is asked of those behind it; one that passes settles it
pub any_later : (p : ℕ → Bool) (a n : ℕ) (whole : Bool) → a < n → p a ≡ false → list_any p (from_on a n) ≡ whole → list_any p (from_on (a + 1) n) ≡ whole
any_later p a n whole h fails so_far =
    sym (ap (list_any p) (from_on-cons a n h) ∙ ap (λ b. b || list_any p (from_on (a + 1) n)) fails) ∙ so_far

pub any_here : (p : ℕ → Bool) (a n : ℕ) (whole : Bool) → a < n → p a ≡ true → list_any p (from_on a n) ≡ whole → true ≡ whole
any_here p a n whole h passes so_far =
    sym (ap (list_any p) (from_on-cons a n h) ∙ ap (λ b. b || list_any p (from_on (a + 1) n)) passes) ∙ so_far

-- ---- parts

flat_map-more : {X : Type 0} (part : ℕ → List X) (a k : ℕ) → flat_map part (range_with_len a (k + 1)) ≡ flat_map part (range_with_len a k) ++ part (a + k)
flat_map-more part a k =
    ap (flat_map part) (range_with_len-more a k)
    ∙ flat_map-append part (range_with_len a k) ((a + k) ∷ [])
    ∙ ap (λ x. flat_map part (range_with_len a k) ++ x) (append-nil (part (a + k)))

-- a part was added behind those before it, which are of the numbers from a on
pub part_after : {X : Type 0} (part : ℕ → List X) (a k j : ℕ) (old text now : List X) → a + k ≡ j → text ≡ old ++ flat_map part (range_with_len a k) → now ≡ text ++ part j → now ≡ old ++ flat_map part (range_with_len a (k + 1))
part_after part a k j old text now place so_far added =
    added
    ∙ ap (λ x. x ++ part j) so_far
    ∙ append_assoc old (flat_map part (range_with_len a k)) (part j)
    ∙ ap (λ i. old ++ (flat_map part (range_with_len a k) ++ part i)) (sym place)
    ∙ ap (λ x. old ++ x) (sym (flat_map-more part a k))

-- ---- a fold

-- a fold over the numbers below k, with the number k
pub folded : (f : ℕ → ℕ → ℕ) (k so_far next : ℕ) → so_far ≡ fold f 0 (range_with_len 0 k) → next ≡ f so_far k → next ≡ fold f 0 (range_with_len 0 (k + 1))
folded f k so_far next is more =
    more
    ∙ ap (λ x. f x k) is
    ∙ ap (f (fold f 0 (range_with_len 0 k))) (sym (zero-add k))
    ∙ sym (fold_push f 0 (range_with_len 0 k) (0 + k))
    ∙ sym (ap (fold f 0) (range_with_len-more 0 k))
