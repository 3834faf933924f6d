-- SE1: the rows that ask for so many slots between two mutual games lack at most one, and one for each number of slots
-- that the games lack.
use Rattle.std.proofs.Common.{◌≡◌, ℕ, zero, suc, ◌+◌, ◌-◌, ◌<◌, ◌≤◌, Bool, true, false, not, ◌==◌, cond, nat_lt}
use Rattle.std.proofs.Common.{min as smaller, List, [], ◌∷◌, ◌++◌, length, map, replicate, inl, inr, refl, arith}
use Rattle.std.proofs.Common.{length-append, ap, sym, ◌∙◌}
use Rattle.std.specs.Prelude.{nat_le}
use Rattle.std.proofs.lemmas.Bool.{and_from, and_parts, cases_eq, eq-eqb, eqb-true, le-leb, leb-true, lt-ltb, ltb-true}
use Rattle.std.proofs.lemmas.Bool.Decides.{nat_tests}
use Rattle.std.proofs.lemmas.List.Folds.{list_all-map, sum_by-zero}
use Rattle.std.proofs.lemmas.List.Sums.{sum_by-cons}
use Rattle.std.specs.List.{flat_map, list_all, range_with_len, sum_by}
use Rattle.league.specs.Bounds.{largest}
use Rattle.league.specs.Capacity.{meetings_with}
use Rattle.league.specs.Counts.{Counts, slot_count, slots_of}
use Rattle.league.specs.Instance.{is_meeting}
use Rattle.league.specs.Meetings.{games_of}
use Rattle.league.specs.Separation.{lacking, mutual_games, se1_entry, slots_between}
use Rattle.league.specs.Structure.{pairs_wrong}
use Rattle.league.specs.declared.class.Side.TheVariants.{Both}
use Rattle.league.proofs.RangeLemmas.{one_if}
use Rattle.league.proofs.RoundRobinLemmas.{meets_once}
use Rattle.league.proofs.SumLemmas.{sum_by-add}
use Rattle.rows.specs.Cardinality.{at_most}
use Rattle.rows.specs.Rows.{Row}
use Rattle.rows.proofs.ListLemmas.{list_all-range, list_all-weaker, sum_by-range-part}
use Rattle.encoding.specs.Demands.{se1_rows}
use Rattle.encoding.specs.Lists.{games_in}
use Rattle.decoding.specs.Below.{all_below}
use Rattle.decoding.specs.Mirrors.{Mirrors}
use Rattle.decoding.specs.Shortfalls.{shortfall, units_needed}
use Rattle.decoding.proofs.MeetingLists.{games_listed, meeting_parts, meetings_with-fit}
use Rattle.decoding.proofs.SeasonLaws.{slots_of-fit}
use Rattle.decoding.proofs.SeparationLaw.{mutual-le, satisfied-se1}
use Rattle.decoding.proofs.ShortfallLemmas.{largest-cons, satisfied-needs, shortfall-at_most}

-- ---- the largest of numbers that a bound holds

pub largest-le : {X : Type 0} (f : X → ℕ) (bound : ℕ) (xs : List X) → list_all (λ x. nat_le (f x) bound) xs ≡ true
    → largest f xs ≤ bound
largest-le f bound [] pass = omega arith
largest-le f bound (x ∷ xs) pass =
    let both = and_parts (nat_le (f x) bound) (list_all (λ x. nat_le (f x) bound) xs) pass in
    omega (arith, largest-cons f x xs, leb-true (f x) bound both.0, largest-le f bound xs both.1)

-- ---- so many steps

-- one number more is lacking where it is above d
one_step : (d k x : ℕ) → x ≡ suc k → one_if (not (x - d + 0 == 0)) + (k - d + 0) ≡ suc k - d + 0
one_step d k x is = grind (arith, nat_tests)

steps_above : (d k a end : ℕ) → end ≡ a + k
    → sum_by (λ u. one_if (not (end - u - d + 0 == 0))) (range_with_len a k) ≡ k - d + 0
steps_above d zero a end ends = omega arith
steps_above d (suc k) a end ends =
    omega (
      arith,
      sum_by-cons (λ u. one_if (not (end - u - d + 0 == 0))) a (range_with_len (a + 1) k),
      one_step d k (end - a) (omega arith),
      steps_above d k (a + 1) end (omega arith),
    )

no_steps : (xs : List ℕ) → sum_by (λ u. 0) xs ≡ 0
no_steps [] = refl
no_steps (x ∷ xs) = omega (arith, sum_by-cons (λ u. 0) x xs, no_steps xs)

-- of at most two games, one step for each number of slots that they lack
pub lacking_steps : (min : ℕ) (games : List ℕ) → length games ≤ 2
    → sum_by (λ u. one_if (not (lacking (min + 1 - u) games == 0))) (range_with_len 1 min) ≡ lacking min games
lacking_steps min [] few = no_steps (range_with_len 1 min)
lacking_steps min (s ∷ []) few = no_steps (range_with_len 1 min)
lacking_steps min (s ∷ t ∷ []) few = steps_above (slots_between s t) min 1 (min + 1) (omega arith)
lacking_steps min (s ∷ t ∷ u ∷ games) few = absurd (omega arith)

-- ---- two teams have two mutual games

length-games : (c : ℕ → ℕ) (slots : List ℕ) → length (flat_map (λ s. replicate (c s) s) slots) ≡ sum_by c slots
length-games c [] = refl
length-games c (s ∷ slots) =
    omega (
      arith,
      length-append (replicate (c s) s) (flat_map (λ s. replicate (c s) s) slots),
      length-same (c s) s,
      sum_by-cons c s slots,
      length-games c slots,
    ) where
      length-same : (k s : ℕ) → length (replicate k s) ≡ k
      length-same zero s = refl
      length-same (suc k) s = omega (arith, length-same k s)

two_meetings : (f g : ℕ → ℕ × ℕ) (b : Bool) (j : ℕ)
    → length (map f (cond b (j ∷ []) []) ++ map g (cond b (j ∷ []) [])) ≤ 2
two_meetings f g true j = omega arith
two_meetings f g false j = omega arith

one_or_none : (need entry : ℕ) → need ≤ 1 → (need == 0) ≡ (entry == 0) → need ≡ one_if (not (entry == 0))
one_or_none need entry most same = grind (arith, nat_tests)

module _ (n : ℕ) (m : Counts) (values : ℕ → Bool) (mirrors : Mirrors n m values) (once : pairs_wrong n m ≡ 0) where
  -- some meetings have at most one game each in some slots on end
  games_of-le : (meetings : List (ℕ × ℕ)) (a k : ℕ) → list_all (is_meeting n) meetings ≡ true → a + k ≤ slot_count n
      → games_of m meetings (range_with_len a k) ≤ length meetings
  games_of-le [] a k fit inside = omega arith
  games_of-le (p ∷ meetings) a k fit inside =
      let both = and_parts (is_meeting n p) (list_all (is_meeting n) meetings) fit in
      let teams = meeting_parts n p both.0 in
      let games : ℕ → ℕ = λ s. m p.0 p.1 s in
      omega (
        arith,
        sum_by-cons (λ (p : ℕ × ℕ). sum_by (λ s. m p.0 p.1 s) (range_with_len a k)) p meetings,
        sum_by-range-part games 0 (slot_count n) a k (omega arith) (omega arith),
        meets_once n m p.0 p.1 once teams.0 teams.1 teams.2,
        games_of-le meetings a k both.1 inside,
      )

  below_in_range : (a k : ℕ) → a + k ≤ slot_count n → all_below (slot_count n) (range_with_len a k) ≡ true
  below_in_range a k inside =
      list_all-range (λ s. nat_lt s (slot_count n)) a k
      (λ s from within. lt-ltb s (slot_count n) (omega arith))

  -- each row of SE1 lacks at most one
  lacks-le : (i j a k : ℕ) → i < n → j < n → a + k ≤ slot_count n
      → shortfall values (at_most 1 (games_in n (meetings_with Both i (j ∷ [])) (range_with_len a k))) ≤ 1
  lacks-le i j a k first second inside =
      let other : all_below n (j ∷ []) ≡ true = and_from (nat_lt j n) true (lt-ltb j n second) refl in
      let meetings : List (ℕ × ℕ) = meetings_with Both i (j ∷ []) in
      let fit = meetings_with-fit n i first (j ∷ []) other Both in
      omega (
        arith,
        shortfall-at_most values (games_in n meetings (range_with_len a k)) 1,
        games_listed n m values meetings (range_with_len a k) mirrors.games fit (below_in_range a k inside),
        games_of-le meetings a k fit inside,
        two_meetings (λ j. (i, j)) (λ j. (j, i)) (not (j == i)) j,
      )

  rows-le : (min : ℕ) (p : ℕ × ℕ) → p.0 < n → p.1 < n → units_needed values (se1_rows n min p) ≤ 1
  rows-le min p first second =
      let width : ℕ = smaller (min + 1) (slot_count n) in
      let row : List ℕ → Row = λ window. at_most 1 (games_in n (meetings_with Both p.0 (p.1 ∷ [])) window) in
      let few : Row → Bool = λ row. nat_le (shortfall values row) 1 in
      let window : ℕ → List ℕ = λ a. range_with_len a width in
      largest-le (shortfall values) 1 (se1_rows n min p)
      (list_all-map few row (map window (range_with_len 0 (slot_count n + 1 - width)))
      ∙ list_all-map (λ slots. few (row slots)) window (range_with_len 0 (slot_count n + 1 - width))
      ∙ list_all-range (λ a. few (row (window a))) 0 (slot_count n + 1 - width)
      (λ a from within. le-leb (shortfall values (row (window a))) 1
      (lacks-le p.0 p.1 a width first second (omega arith))))

  pub needs-se1 : (min : ℕ) (p : ℕ × ℕ) → p.0 < n → p.1 < n
      → units_needed values (se1_rows n min p) ≡ one_if (not (se1_entry n m min p == 0))
  needs-se1 min p first second =
      one_or_none (units_needed values (se1_rows n min p)) (se1_entry n m min p) (rows-le min p first second)
      (sym (satisfied-needs values (se1_rows n min p)) ∙ satisfied-se1 n m values mirrors min p first second)

  mutual-none : (i s : ℕ) → i < n → nat_lt s (slot_count n) ≡ true → (m i i s + m i i s == 0) ≡ true
  mutual-none i s team slot =
      eq-eqb (m i i s + m i i s) 0
      (omega (arith, mutual-le n m values mirrors i i s team team (ltb-true s (slot_count n) slot)))

  mutual_sum : (i j : ℕ) → i < n → j < n → sum_by (λ s. m i j s + m j i s) (slots_of n) ≤ 2
  mutual_sum i j first second =
      elim (cases_eq i j) [
        | inl same ↦
            let none : sum_by (λ s. m i i s + m i i s) (slots_of n) ≡ 0 =
            eqb-true (sum_by (λ s. m i i s + m i i s) (slots_of n)) 0
            (sum_by-zero (λ s. m i i s + m i i s) (slots_of n)
            ∙ list_all-weaker (λ s. nat_lt s (slot_count n)) (λ s. m i i s + m i i s == 0)
            (λ s slot. mutual-none i s first slot) (slots_of n) (slots_of-fit n)) in
            omega (arith, ap (λ (k : ℕ). sum_by (λ s. m i k s + m k i s) (slots_of n)) same, none)
        | inr differ ↦
            omega (
              arith,
              sum_by-add (λ s. m i j s) (λ s. m j i s) (slots_of n),
              meets_once n m i j once first second differ,
              meets_once n m j i once second first (λ same. differ (sym same)),
            )
      ]

  pub steps-se1 : (min : ℕ) (p : ℕ × ℕ) → p.0 < n → p.1 < n
      → sum_by (λ u. one_if (not (se1_entry n m (min + 1 - u) p == 0))) (range_with_len 1 min) ≡ se1_entry n m min p
  steps-se1 min p first second =
      let c : ℕ → ℕ = λ s. m p.0 p.1 s + m p.1 p.0 s in
      lacking_steps min (mutual_games n m p)
      (omega (arith, length-games c (slots_of n), mutual_sum p.0 p.1 first second))
