-- Numbers as sets: their order, ranges, and a set with a number behind it.
use Rattle.std.proofs.Common.{◌≡◌, ℕ, zero, suc, ◌+◌, ◌<◌, ◌≤◌, Bool, true, false, cond, List, [], ◌∷◌, ◌++◌, refl, sym}
use Rattle.std.proofs.Common.{ap, ◌∙◌, arith}
use Rattle.std.proofs.lemmas.Bool.Decides.{nat_tests}
use Rattle.std.proofs.lemmas.List.FromFn.{get_or-range_with_len, length-range_with_len}
use Rattle.std.proofs.lemmas.List.Elements.{All-tail}
use Rattle.std.proofs.lemmas.List.Kept.{AllPairs-cons}
use Rattle.std.specs.List.{All, filter, range_with_len}
use Rattle.std.specs.Ordering.{is_lt, nat_cmp}
use Rattle.std.specs.declared.cmp.Ordering.TheVariants.{Less}
use Rattle.league.specs.Sets.{IsAscending, with_item}
use Rattle.league.proofs.OneTermLemmas.{All-range}
use Rattle.league.proofs.RangeLemmas.{range_with_len-more}

pub nat_cmp-less : (a b : ℕ) → a < b → nat_cmp a b ≡ Less
nat_cmp-less a b h = grind (arith, nat_tests)

pub is_before : (a b : ℕ) → a < b → is_lt (nat_cmp a b) ≡ true
is_before a b h = grind (arith, nat_tests)

pub isnt_before : (a b : ℕ) → b ≤ a → is_lt (nat_cmp a b) ≡ false
isnt_before a b h = grind (arith, nat_tests)

-- a range ascends
pub range-ascending : (a k : ℕ) → IsAscending nat_cmp (range_with_len a k)
range-ascending a zero = λ i j d before within. absurd (omega arith)
range-ascending a (suc k) =
    AllPairs-cons (λ x y. nat_cmp x y ≡ Less) a (range_with_len (a + 1) k)
    (All-range (λ y. nat_cmp a y ≡ Less) (a + 1) k (λ y low high. nat_cmp-less a y (omega arith)))
    (range-ascending (a + 1) k)

-- of numbers below x all come before x, and none after it
all_before : (x : ℕ) (xs : List ℕ) → All (λ y. y < x) xs → filter (λ y. is_lt (nat_cmp y x)) xs ≡ xs
all_before x [] below = refl
all_before x (y ∷ xs) below =
    let rest : List ℕ = filter (λ y. is_lt (nat_cmp y x)) xs in
    ap (λ (b : Bool). cond b (y ∷ rest) rest) (is_before y x (below 0 y (omega arith)))
    ∙ ap (λ (ys : List ℕ). y ∷ ys) (all_before x xs (All-tail (λ y. y < x) y xs below))

none_after : (x : ℕ) (xs : List ℕ) → All (λ y. y < x) xs → filter (λ y. is_lt (nat_cmp x y)) xs ≡ []
none_after x [] below = refl
none_after x (y ∷ xs) below =
    let rest : List ℕ = filter (λ y. is_lt (nat_cmp x y)) xs in
    let here : y < x = below 0 y (omega arith) in
    ap (λ (b : Bool). cond b (y ∷ rest) rest) (isnt_before x y (omega arith))
    ∙ none_after x xs (All-tail (λ y. y < x) y xs below)

pub with_item-last : (x : ℕ) (xs : List ℕ) → All (λ y. y < x) xs → with_item nat_cmp x xs ≡ xs ++ x ∷ []
with_item-last x xs below =
    ap (λ (ys : List ℕ). ys ++ x ∷ filter (λ y. is_lt (nat_cmp x y)) xs) (all_before x xs below)
    ∙ ap (λ (ys : List ℕ). xs ++ x ∷ ys) (none_after x xs below)

-- the numbers of a range are below its end
range_below : (a k : ℕ) → All (λ y. y < a + k) (range_with_len a k)
range_below a k i d inside =
    let small : i < k = omega (arith, length-range_with_len a k) in
    omega (arith, get_or-range_with_len a k i d small)

-- a range that has come so far, with its next number
pub range-next : (a k x : ℕ) (set next : List ℕ) → x ≡ a + k → set ≡ range_with_len a k
    → next ≡ with_item nat_cmp x set → next ≡ range_with_len a (k + 1)
range-next a k x set next is so_far put =
    put
    ∙ ap (λ (y : ℕ). with_item nat_cmp y set) is
    ∙ ap (with_item nat_cmp (a + k)) so_far
    ∙ with_item-last (a + k) (range_with_len a k) (range_below a k)
    ∙ sym (range_with_len-more a k)
