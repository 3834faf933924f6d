-- The games of a team against some others in a slot, one opponent after the other.
use Rattle.std.proofs.Common.{◌≡◌, ◌≢◌, ℕ, ◌+◌, ◌<◌, suc, Bool, not, ◌||◌, ◌==◌, if◌then◌else◌, List, [], ◌∷◌, map}
use Rattle.std.proofs.Common.{get_or, refl, arith, ap, ◌∙◌, inl, inr}
use Rattle.std.proofs.lemmas.Bool.{cases_eq}
use Rattle.std.proofs.lemmas.Bool.Decides.{nat_tests}
use Rattle.std.proofs.lemmas.List.Sums.{sum_by-cons, sum_by-le}
use Rattle.std.specs.List.{sum_by}
use Rattle.std.specs.Ordering.{nat_cmp}
use Rattle.league.specs.Counts.{Counts}
use Rattle.league.specs.Meetings.{games_of, others}
use Rattle.league.specs.Sets.{IsAscending, is_in}
use Rattle.league.proofs.RangeLemmas.{one_if}
use Rattle.league.proofs.SetLemmas.{less_than}
use Rattle.league.proofs.SumLemmas.{sum_by-filter, sum_by-map, sum_by-same}

-- a sum of one
pub sum_by-one : (f : ℕ → ℕ) (s : ℕ) → sum_by f (s ∷ []) ≡ f s
sum_by-one f s = omega (arith, sum_by-cons f s [])

-- the games of some meetings in one slot
pub games_of-one_slot : (m : Counts) (meetings : List (ℕ × ℕ)) (s : ℕ)
    → games_of m meetings (s ∷ []) ≡ sum_by (λ p. m p.0 p.1 s) meetings
games_of-one_slot m meetings s = sum_by-same (λ p. sum_by (λ t. m p.0 p.1 t) (s ∷ [])) (λ p. m p.0 p.1 s)
    (λ p. sum_by-one (λ t. m p.0 p.1 t) s) meetings

-- the games of a team at home, and away, none with itself
pub at_home : (m : Counts) (i : ℕ) (teams : List ℕ) (s : ℕ)
    → games_of m (map (λ j. (i, j)) (others i teams)) (s ∷ []) ≡ sum_by (λ j. if not (j == i) then m i j s else 0) teams
at_home m i teams s = games_of-one_slot m (map (λ j. (i, j)) (others i teams)) s ∙ sum_by-map (λ p. m p.0 p.1 s)
    (λ j. (i, j)) (others i teams) ∙ sum_by-filter (λ j. m i j s) (λ j. not (j == i)) teams

pub is_away : (m : Counts) (i : ℕ) (teams : List ℕ) (s : ℕ)
    → games_of m (map (λ j. (j, i)) (others i teams)) (s ∷ []) ≡ sum_by (λ j. if not (j == i) then m j i s else 0) teams
is_away m i teams s = games_of-one_slot m (map (λ j. (j, i)) (others i teams)) s ∙ sum_by-map (λ p. m p.0 p.1 s)
    (λ j. (j, i)) (others i teams) ∙ sum_by-filter (λ j. m j i s) (λ j. not (j == i)) teams

-- where a team has no game with itself, it needn't be left out
left_out : (i j x : ℕ) → (j ≡ i → x ≡ 0) → (if not (j == i) then x else 0) ≡ x
left_out i j x none = elim (cases_eq j i) [
  | inl same ↦ let no : x ≡ 0 = none same in grind (arith, nat_tests)
  | inr differ ↦ grind (arith, nat_tests)
]

pub at_home-all : (m : Counts) (i : ℕ) (teams : List ℕ) (s : ℕ) → m i i s ≡ 0
    → games_of m (map (λ j. (i, j)) (others i teams)) (s ∷ []) ≡ sum_by (λ j. m i j s) teams
at_home-all m i teams s none =
    at_home m i teams s
    ∙ sum_by-same (λ j. if not (j == i) then m i j s else 0) (λ j. m i j s)
    (λ j. left_out i j (m i j s) (λ same. ap (λ (k : ℕ). m i k s) same ∙ none)) teams

pub is_away-all : (m : Counts) (i : ℕ) (teams : List ℕ) (s : ℕ) → m i i s ≡ 0
    → games_of m (map (λ j. (j, i)) (others i teams)) (s ∷ []) ≡ sum_by (λ j. m j i s) teams
is_away-all m i teams s none =
    is_away m i teams s
    ∙ sum_by-same (λ j. if not (j == i) then m j i s else 0) (λ j. m j i s)
    (λ j. left_out i j (m j i s) (λ same. ap (λ (k : ℕ). m k i s) same ∙ none)) teams

-- a sum of zeros
pub sum_of_none : {X : Type 0} (f : X → ℕ) → ((x : X) → f x ≡ 0) → (xs : List X) → sum_by f xs ≡ 0
sum_of_none f none xs = omega (arith, sum_by-le f 0 xs (λ k d lt. omega (arith, none (get_or xs k d))))

-- a number stands in an ascending list once, or not at all
other_number : (x y : ℕ) → x < y → one_if (x == y) ≡ 0
other_number x y lt = grind (arith, nat_tests)

found : (g x : ℕ) (rest : Bool) (count : ℕ) → g ≡ x → count ≡ 0
    → one_if (g == x) + count ≡ one_if ((x == g) || rest)
found g x rest count same none = grind (arith, nat_tests)

not_found : (g x : ℕ) (rest : Bool) (count : ℕ) → g ≢ x → count ≡ one_if rest
    → one_if (g == x) + count ≡ one_if ((x == g) || rest)
not_found g x rest count differ so_far = grind (arith, nat_tests)

pub once_in : (g : ℕ) (xs : List ℕ) → IsAscending nat_cmp xs
    → sum_by (λ j. one_if (g == j)) xs ≡ one_if (is_in g xs)
once_in g [] ascending = refl
once_in g (x ∷ xs) ascending =
    let rest : IsAscending nat_cmp xs = λ i j d before lt. ascending (suc i) (suc j) d (omega arith)
    (omega arith) in
    sum_by-cons (λ j. one_if (g == j)) x xs ∙ elim (cases_eq g x) [
      | inl same ↦
          let none : sum_by (λ j. one_if (g == j)) xs ≡ 0 =
          omega (
            arith,
            sum_by-le (λ j. one_if (g == j)) 0 xs
                (λ k d lt. omega (
                  arith,
                  other_number g (get_or xs k d)
                      (omega (
                        arith,
                        same,
                        less_than x (get_or xs k d)
                            (ascending 0 (suc k) d (omega arith) (omega arith)),
                      )),
                )),
          ) in
          found g x (is_in g xs) (sum_by (λ j. one_if (g == j)) xs) same none
      | inr differ ↦ not_found g x (is_in g xs) (sum_by (λ j. one_if (g == j)) xs) differ (once_in g xs rest)
    ]
