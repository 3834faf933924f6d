-- Sets that are put together of numbers, and ranges as sets.
use Rattle.std.proofs.Common.{◌≡◌, ◌≢◌, ℕ, ◌+◌, ◌<◌, ◌≤◌, Bool, true, false, ◌&&◌, cond, nat_lt}
use Rattle.std.proofs.Common.{List, [], ◌∷◌, ◌++◌, length, get_or, take, inl, inr, sym, ap, ◌∙◌, arith}
use Rattle.std.proofs.lemmas.Bool.{and_from, cases_lt, lt-ltb}
use Rattle.std.proofs.lemmas.Cmp.{nat_cmp_total}
use Rattle.std.proofs.lemmas.List.Elements.{All-append, All-cons, All-filter, All-head, All-nil, All-tail}
use Rattle.std.proofs.lemmas.List.Sums.{fold_more, list_all-from_AllPass}
use Rattle.std.specs.List.{All, filter, fold, list_all, range_with_len, sum_by}
use Rattle.std.specs.Ordering.{is_lt, nat_cmp}
use Rattle.league.specs.Sets.{IsAscending, ascends, with_item}
use Rattle.league.proofs.AscendingLemmas.{ascends-true}
use Rattle.league.proofs.SetLemmas.{IsAscending-with_item}
use Rattle.league.proofs.OneTermLemmas.{All-range}
use Rattle.league.proofs.NumberSets.{is_before, isnt_before, range-ascending}
use Rattle.instance_gen.specs.Draws.{set_of}

-- the set of the first numbers of a list, with the next one
pub set_of-next : (numbers : List ℕ) (i : ℕ) (set next : List ℕ) → i < length numbers → set ≡ set_of (take i numbers)
    → next ≡ with_item nat_cmp (get_or numbers i 0) set → next ≡ set_of (take (i + 1) numbers)
set_of-next numbers i set next within so_far put =
    put
    ∙ ap (with_item nat_cmp (get_or numbers i 0)) so_far
    ∙ sym (fold_more (λ set number. with_item nat_cmp number set) [] numbers i 0 within)

-- a sum over a set of at most two numbers, by whether one comes before the other
by_order : (f : ℕ → ℕ) (a b : ℕ) (t u : Bool)
    → sum_by f (cond t (a ∷ []) [] ++ b ∷ cond u (a ∷ []) []) ≡ cond t (f a) 0 + f b + cond u (f a) 0
by_order f a b true true = omega arith
by_order f a b true false = omega arith
by_order f a b false true = omega arith
by_order f a b false false = omega arith

pub sum_by-set_of_one : (f : ℕ → ℕ) (a b : ℕ) → a ≡ b → sum_by f (set_of (a ∷ b ∷ [])) ≡ f a
sum_by-set_of_one f a b same =
    omega (
      arith,
      by_order f a b (is_lt (nat_cmp a b)) (is_lt (nat_cmp b a)),
      ap (λ (t : Bool). cond t (f a) 0) (isnt_before a b (omega arith)),
      ap (λ (t : Bool). cond t (f a) 0) (isnt_before b a (omega arith)),
      ap f same,
    )

pub sum_by-set_of_two : (f : ℕ → ℕ) (a b : ℕ) → a ≢ b → sum_by f (set_of (a ∷ b ∷ [])) ≡ f a + f b
sum_by-set_of_two f a b differ =
    elim (cases_lt a b) as (λ _. sum_by f (set_of (a ∷ b ∷ [])) ≡ f a + f b) [
      | inl before ↦
          omega (
            arith,
            by_order f a b (is_lt (nat_cmp a b)) (is_lt (nat_cmp b a)),
            ap (λ (t : Bool). cond t (f a) 0) (is_before a b before),
            ap (λ (t : Bool). cond t (f a) 0) (isnt_before b a (omega arith)),
          )
      | inr not_before ↦
          let later : b < a = omega arith in
          omega (
            arith,
            by_order f a b (is_lt (nat_cmp a b)) (is_lt (nat_cmp b a)),
            ap (λ (t : Bool). cond t (f a) 0) (isnt_before a b not_before),
            ap (λ (t : Bool). cond t (f a) 0) (is_before b a later),
          )
    ]

-- a set of numbers below a bound is below it, and ascends
with_item-below : (bound x : ℕ) (set : List ℕ) → x < bound → All (λ y. y < bound) set
    → All (λ y. y < bound) (with_item nat_cmp x set)
with_item-below bound x set low all =
    let Below : ℕ → Type 0 = λ y. y < bound in
    All-append Below (filter (λ y. is_lt (nat_cmp y x)) set) (x ∷ filter (λ y. is_lt (nat_cmp x y)) set)
    (All-filter (λ y. is_lt (nat_cmp y x)) Below set all)
    (All-cons Below x (filter (λ y. is_lt (nat_cmp x y)) set) low
    (All-filter (λ y. is_lt (nat_cmp x y)) Below set all))

fold-below : (bound : ℕ) (numbers set : List ℕ) → All (λ y. y < bound) set → All (λ y. y < bound) numbers
    → All (λ y. y < bound) (fold (λ set number. with_item nat_cmp number set) set numbers)
fold-below bound [] set all below = all
fold-below bound (x ∷ numbers) set all below =
    let Below : ℕ → Type 0 = λ y. y < bound in
    fold-below bound numbers (with_item nat_cmp x set)
    (with_item-below bound x set (All-head Below x numbers below) all) (All-tail Below x numbers below)

pub set_of-below : (bound : ℕ) (numbers : List ℕ) → All (λ y. y < bound) numbers → All (λ y. y < bound) (set_of numbers)
set_of-below bound numbers below = fold-below bound numbers [] (All-nil (λ y. y < bound)) below

fold-ascending : (numbers set : List ℕ) → IsAscending nat_cmp set
    → IsAscending nat_cmp (fold (λ set number. with_item nat_cmp number set) set numbers)
fold-ascending [] set ascending = ascending
fold-ascending (x ∷ numbers) set ascending =
    fold-ascending numbers (with_item nat_cmp x set) (IsAscending-with_item nat_cmp nat_cmp_total x set ascending)

set_of-ascending : (numbers : List ℕ) → IsAscending nat_cmp (set_of numbers)
set_of-ascending numbers = fold-ascending numbers [] (λ i j d before within. absurd (omega arith))

-- a list is a set of numbers below a bound, as a test
abbrev pub are_below : ℕ → List ℕ → Bool
are_below bound numbers = list_all (λ y. nat_lt y bound) numbers && ascends nat_cmp numbers

are_below-true : (bound : ℕ) (numbers : List ℕ) → All (λ y. y < bound) numbers → IsAscending nat_cmp numbers
    → are_below bound numbers ≡ true
are_below-true bound numbers below ascending =
    and_from (list_all (λ y. nat_lt y bound) numbers) (ascends nat_cmp numbers)
    (list_all-from_AllPass (λ y. nat_lt y bound) numbers
    (λ k d within. lt-ltb (get_or numbers k d) bound (below k d within)))
    (ascends-true nat_cmp numbers ascending)

pub are_below-set_of : (bound : ℕ) (numbers : List ℕ) → All (λ y. y < bound) numbers
    → are_below bound (set_of numbers) ≡ true
are_below-set_of bound numbers below =
    are_below-true bound (set_of numbers) (set_of-below bound numbers below) (set_of-ascending numbers)

pub are_below-range : (bound a k : ℕ) → a + k ≤ bound → are_below bound (range_with_len a k) ≡ true
are_below-range bound a k within =
    are_below-true bound (range_with_len a k) (All-range (λ y. y < bound) a k (λ y low high. omega arith))
    (range-ascending a k)
