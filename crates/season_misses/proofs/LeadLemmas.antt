-- The reason of FA2 amounts to the entry.
use Rattle.std.proofs.Common.{◌≡◌, ◌≢◌, ℕ, ◌<◌, suc, Bool, true, false, ◌==◌, max, cond, List, [], ◌∷◌, length, get_or, Option, Some, None, ◌⊎◌, refl, arith, ap, sym, ◌∙◌, inl, inr}
use Rattle.std.proofs.lemmas.Bool.{cases_Bool, cases_lt}
use Rattle.std.proofs.lemmas.Bool.Decides.{nat_tests}
use Rattle.std.proofs.lemmas.List.{get_or-map}
use Rattle.std.proofs.lemmas.List.Elements.{All-cons, All-nil}
use Rattle.std.specs.List.{All, filter, find, fold}
use Rattle.league.specs.Bounds.{excess, largest}
use Rattle.league.specs.Counts.{counts_of}
use Rattle.league.specs.Deviation.{entry_of}
use Rattle.league.specs.Fairness.{fa2_entry}
use Rattle.league.specs.Meetings.{pairs_of}
use Rattle.league.specs.declared.class.Class.TheVariants.{Fa2}
use Rattle.league.specs.declared.game.Game.{Game}
use Rattle.season_misses.specs.Counting.{counts_in_fa2}
use Rattle.season_misses.specs.Reasons.{apart, by_lead, furthest, reasons_at}
use Rattle.season_misses.specs.declared.reason.Cause.TheVariants.{Lead}
use Rattle.season_misses.proofs.LawLemmas.{largest-excess, missed, missed-where}

-- what is found passes the test
found-passes : (p : ℕ → Bool) (xs : List ℕ) (x : ℕ) → find p xs ≡ Some x → p x ≡ true
found-passes p [] x found = absurd (cc)
found-passes p (y ∷ ys) x found =
    elim (cases_Bool (p y)) [
      | inl passes ↦
          let is : Some y ≡ Some x = sym (ap (λ (b : Bool). cond b (Some y) (find p ys)) passes) ∙ found in
          let same : y ≡ x = cc in
          sym (ap p same) ∙ passes
      | inr fails ↦ found-passes p ys x (sym (ap (λ (b : Bool). cond b (Some y) (find p ys)) fails) ∙ found)
    ]

-- where nothing is found, nothing passes
none-passes : (p : ℕ → Bool) (xs : List ℕ) → find p xs ≡ None → All (λ x. p x ≡ false) xs
none-passes p [] none = All-nil (λ x. p x ≡ false)
none-passes p (y ∷ ys) none =
    elim (cases_Bool (p y)) [
      | inl passes ↦ absurd (let is : Some y ≡ None = sym (ap (λ (b : Bool). cond b (Some y) (find p ys)) passes) ∙ none in cc)
      | inr fails ↦ All-cons (λ x. p x ≡ false) y ys fails (none-passes p ys (sym (ap (λ (b : Bool). cond b (Some y) (find p ys)) fails) ∙ none))
    ]

-- a value that is that of an element
record IsAttained (f : ℕ → ℕ) (xs : List ℕ) (most : ℕ) : Type 0 where
  place : ℕ
  within : place < length xs
  is : (d : ℕ) → f (get_or xs place d) ≡ most

-- the largest so far is the number that was there before, or that of an element
attained : (f : ℕ → ℕ) (a : ℕ) (xs : List ℕ) → (fold (λ m x. max m (f x)) a xs ≡ a) ⊎ IsAttained f xs (fold (λ m x. max m (f x)) a xs)
attained f a [] = inl refl
attained f a (x ∷ xs) =
    elim (attained f (max a (f x)) xs) [
      | inl same ↦ elim (cases_lt a (f x)) [
        | inl less ↦ inr (record {
          place = 0;
          within = omega arith;
          is = λ d. let most : max a (f x) ≡ f x = omega arith in sym (same ∙ most);
        })
        | inr not_less ↦ inl (let most : max a (f x) ≡ a = omega arith in same ∙ most)
      ]
      | inr later ↦ inr (record { place = suc later.place; within = let lt : later.place < length xs = later.within in omega arith; is = later.is })
    ]

equal : (a b : ℕ) → (a == b) ≡ true → a ≡ b
equal a b h = grind (arith, nat_tests)

unequal : (a b : ℕ) → (a == b) ≡ false → a ≢ b
unequal a b h same = grind (arith, nat_tests)

-- where the largest is none of the list's values, there are none
largest-unfound : (f : ℕ → ℕ) (xs : List ℕ) → find (λ x. f x == largest f xs) xs ≡ None → largest f xs ≡ 0
largest-unfound f xs none =
    elim (attained f 0 xs) [
      | inl same ↦ same
      | inr is ↦ absurd (unequal (f (get_or xs is.place 0)) (largest f xs) (none-passes (λ x. f x == largest f xs) xs none is.place 0 is.within) (is.is 0))
    ]

-- the reason amounts to the excess of the largest difference
lead-amounts : (key n intp : ℕ) (games : List Game) (p : ℕ × ℕ) (slots : List ℕ) (at : Option ℕ) → furthest n (counts_of games) slots p ≡ at → missed (by_lead key n intp games p at) ≡ excess (largest (apart n (counts_of games) p) slots) intp
lead-amounts key n intp games p slots None none =
    let zero_largest : largest (apart n (counts_of games) p) slots ≡ 0 = largest-unfound (apart n (counts_of games) p) slots none in
    omega arith
lead-amounts key n intp games p slots (Some s) found =
    let f : ℕ → ℕ = apart n (counts_of games) p in
    missed-where key (excess (f s) intp) (Lead (record { 0 = s }) (filter (counts_in_fa2 p.0 s) games) (filter (counts_in_fa2 p.1 s) games))
    ∙ ap (λ (x : ℕ). excess x intp) (equal (f s) (largest f slots) (found-passes (λ t. f t == largest f slots) slots s found))

-- FA2
pub fa2-adds_up : (n : ℕ) (games : List Game) (teams : List ℕ) (intp : ℕ) (slots : List ℕ) (key : ℕ) → key < length (pairs_of teams) → missed (reasons_at n games (Fa2 teams intp slots) key) ≡ entry_of n (counts_of games) (Fa2 teams intp slots) key
fa2-adds_up n games teams intp slots key inside =
    let p : ℕ × ℕ = get_or (pairs_of teams) key (0, 0) in
    lead-amounts key n intp games p slots (furthest n (counts_of games) slots p) refl
    ∙ sym (largest-excess (apart n (counts_of games) p) intp slots)
    ∙ sym (get_or-map (fa2_entry n (counts_of games) intp slots) (pairs_of teams) key (0, 0) 0 inside)
