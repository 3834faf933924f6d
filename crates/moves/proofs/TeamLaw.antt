-- When exchanging two teams in a closed set of slots leads to a round robin: exactly where there are no phases, or, in
-- those of the slots that are in the first half, both meet the same teams.
use Rattle.std.proofs.Common.{◌≡◌, ◌≢◌, ℕ, ◌+◌, ◌-◌, ◌<◌, ◌≤◌, Bool, true, false, ◌&&◌, ◌||◌, nat_lt, if◌then◌else◌, inl, inr, refl, arith, ap, subst, sym, ◌∙◌}
use Rattle.std.proofs.lemmas.Bool.{cases_eq, cases_Bool}
use Rattle.std.proofs.lemmas.Bool.Decides.{nat_tests}
use Rattle.std.proofs.lemmas.List.Folds.{list_any_at}
use Rattle.std.proofs.lemmas.List.FromFn.{get_or-range_with_len, length-range_with_len}
use Rattle.std.specs.List.{list_any, range_with_len}
use Rattle.league.specs.Counts.{Counts, slot_count}
use Rattle.moves.specs.Moves.{exchange}
use Rattle.moves.specs.Parts.{IsClosedSlots, KeepPhases, MeetAlike, early_games, teams_exchanged}
use Rattle.moves.proofs.PlayLemmas.{IsPlayed, met, met-itself, slot}
use Rattle.moves.proofs.SumLemmas.{OneIsOne, exchange-below, exchange-first, exchange-other, exchange-second, one-of_total, term-le-total, total, total-add, total-exchanged_all, total-le, total-none, total-one, total-same, total-squeeze, total-swap}

-- a closed set of slots, and two different teams
pub record IsExchange (n : ℕ) (phased : Bool) (m : Counts) (i j : ℕ) (set : ℕ → Bool) : Type 0 where
  pub played : IsPlayed n phased m
  pub before : i < j
  pub last : j < n
  pub slots : IsClosedSlots n m i j set

-- a number where a test passes
abbrev pub kept : Bool → ℕ → ℕ
kept b x = if b then x else 0

-- two teams that don't meet
no_meeting : (x y : ℕ) → nat_lt 0 (x + y) ≡ false → (x ≡ 0) × (y ≡ 0)
no_meeting x y none = (grind (arith, nat_tests), grind (arith, nat_tests))

kept-none : (b : Bool) (x : ℕ) → (b ≡ true → x ≡ 0) → kept b x ≡ 0
kept-none true x none = none refl
kept-none false x none = refl

kept-le : (b : Bool) (x : ℕ) → kept b x ≤ x
kept-le true x = omega arith
kept-le false x = omega arith

-- i and j have no game in the slots
apart : (n : ℕ) (phased : Bool) (m : Counts) (i j : ℕ) (set : ℕ → Bool) (r : ℕ) → IsExchange n phased m i j set → r < slot_count n → set r ≡ true → (m i j r ≡ 0) × (m j i r ≡ 0)
apart n phased m i j set r e within in_set = no_meeting (m i j r) (m j i r) (e.slots.apart r within in_set)

-- a number below a bound that passes is found
pub found : (p : ℕ → Bool) (k x : ℕ) → x < k → p x ≡ true → list_any p (range_with_len 0 k) ≡ true
found p k x lt is =
    let first : 0 + x ≡ x = omega arith in
    list_any_at p (range_with_len 0 k) x 0 (omega (arith, length-range_with_len 0 k)) (ap p (get_or-range_with_len 0 k x 0 lt ∙ first) ∙ is)

follows-at_home : (x y z w : ℕ) → x ≡ 1 → y ≡ 1 → ((nat_lt 0 x && nat_lt 0 y) || (nat_lt 0 z && nat_lt 0 w)) ≡ true
follows-at_home x y z w a b = grind (arith, nat_tests)

follows-away : (x y z w : ℕ) → z ≡ 1 → w ≡ 1 → ((nat_lt 0 x && nat_lt 0 y) || (nat_lt 0 z && nat_lt 0 w)) ≡ true
follows-away x y z w a b = grind (arith, nat_tests)

-- the games of home team a and away team b in the slots of the set
abbrev pub in_slots : ℕ → Counts → (ℕ → Bool) → ℕ → ℕ → ℕ
in_slots n m set a b = total (λ r. kept (set r) (m a b r)) (slot_count n)

-- one meeting, in its slot
pub in_slots-one : (n : ℕ) (m : Counts) (set : ℕ → Bool) (a b : ℕ) (one : OneIsOne (λ r. m a b r) (slot_count n)) → in_slots n m set a b ≡ kept (set one.at) 1
in_slots-one n m set a b one =
    total-one (λ r. kept (set r) (m a b r)) (slot_count n) one.at one.below (λ r lt ne. kept-none (set r) (m a b r) (λ _. one.others r lt ne))
    ∙ ap (kept (set one.at)) one.one

kept-follows : (a b : Bool) → (a ≡ true → b ≡ true) → kept a 1 ≤ kept b 1
kept-follows true b leads = rw (leads refl) (omega arith)
kept-follows false b leads = omega arith

-- where the slot of i's home game with k is in the set, so is that of j's
home-le : (n : ℕ) (phased : Bool) (m : Counts) (i j : ℕ) (set : ℕ → Bool) (k : ℕ) → IsExchange n phased m i j set → k < n → k ≢ i → k ≢ j → in_slots n m set i k ≤ in_slots n m set j k
home-le n phased m i j set k e lt ne_i ne_j =
    let mine : OneIsOne (λ r. m i k r) (slot_count n) = slot n phased m i k e.played (omega (arith, e.before, e.last)) lt (λ h. ne_i (sym h)) in
    let its : OneIsOne (λ r. m j k r) (slot_count n) = slot n phased m j k e.played e.last lt (λ h. ne_j (sym h)) in
    let leads : set mine.at ≡ true → set its.at ≡ true = λ in_set.
    e.slots.closed mine.at its.at its.below in_set
    (found (λ k. (nat_lt 0 (m i k mine.at) && nat_lt 0 (m j k its.at)) || (nat_lt 0 (m k i mine.at) && nat_lt 0 (m k j its.at))) n k lt
    (follows-at_home (m i k mine.at) (m j k its.at) (m k i mine.at) (m k j its.at) mine.one its.one)) in
    omega (arith, in_slots-one n m set i k mine, in_slots-one n m set j k its, kept-follows (set mine.at) (set its.at) leads)

away-le : (n : ℕ) (phased : Bool) (m : Counts) (i j : ℕ) (set : ℕ → Bool) (k : ℕ) → IsExchange n phased m i j set → k < n → k ≢ i → k ≢ j → in_slots n m set k i ≤ in_slots n m set k j
away-le n phased m i j set k e lt ne_i ne_j =
    let mine : OneIsOne (λ r. m k i r) (slot_count n) = slot n phased m k i e.played lt (omega (arith, e.before, e.last)) ne_i in
    let its : OneIsOne (λ r. m k j r) (slot_count n) = slot n phased m k j e.played lt e.last ne_j in
    let leads : set mine.at ≡ true → set its.at ≡ true = λ in_set.
    e.slots.closed mine.at its.at its.below in_set
    (found (λ k. (nat_lt 0 (m i k mine.at) && nat_lt 0 (m j k its.at)) || (nat_lt 0 (m k i mine.at) && nat_lt 0 (m k j its.at))) n k lt
    (follows-away (m i k mine.at) (m j k its.at) (m k i mine.at) (m k j its.at) mine.one its.one)) in
    omega (arith, in_slots-one n m set k i mine, in_slots-one n m set k j its, kept-follows (set mine.at) (set its.at) leads)

-- the games of a and b in the slots of the set, at both venues
abbrev pub both_in_slots : ℕ → Counts → (ℕ → Bool) → ℕ → ℕ → ℕ
both_in_slots n m set a b = total (λ r. kept (set r) (met m a b r)) (slot_count n)

kept-add : (b : Bool) (x y : ℕ) → kept b (x + y) ≡ kept b x + kept b y
kept-add true x y = refl
kept-add false x y = refl

both-add : (n : ℕ) (m : Counts) (set : ℕ → Bool) (a b : ℕ) → both_in_slots n m set a b ≡ in_slots n m set a b + in_slots n m set b a
both-add n m set a b =
    total-same (λ r. kept (set r) (met m a b r)) (λ r. kept (set r) (m a b r) + kept (set r) (m b a r)) (slot_count n) (λ r lt. kept-add (set r) (m a b r) (m b a r))
    ∙ total-add (λ r. kept (set r) (m a b r)) (λ r. kept (set r) (m b a r)) (slot_count n)

-- a team that meets itself, or the other of the two, in none of the slots
none-in_slots : (n : ℕ) (m : Counts) (set : ℕ → Bool) (a b : ℕ) → ((r : ℕ) → r < slot_count n → set r ≡ true → m a b r ≡ 0) → in_slots n m set a b ≡ 0
none-in_slots n m set a b none = total-none (λ r. kept (set r) (m a b r)) (slot_count n) (λ r lt. kept-none (set r) (m a b r) (none r lt))

kept-total : (b : Bool) (f : ℕ → ℕ) (k : ℕ) → total f k ≡ 1 → total (λ x. kept b (f x)) k ≡ kept b 1
kept-total true f k one = one
kept-total false f k one = total-none (λ x. 0) k (λ x lt. refl)

-- the games of a team in the first slots of the set: one in each
games-in_slots : (n : ℕ) (phased : Bool) (m : Counts) (set : ℕ → Bool) (a slots : ℕ) → IsPlayed n phased m → a < n → slots ≤ slot_count n → total (λ b. total (λ r. kept (set r) (met m a b r)) slots) n ≡ total (λ r. kept (set r) 1) slots
games-in_slots n phased m set a slots is lt few =
    total-swap (λ b r. kept (set r) (met m a b r)) n slots
    ∙ total-same (λ r. total (λ b. kept (set r) (met m a b r)) n) (λ r. kept (set r) 1) slots (λ r within. kept-total (set r) (λ b. met m a b r) n (is.cells a r lt (omega arith)))

sum_of_both : (a b c d : ℕ) → a ≤ b → c ≤ d → a + c ≡ b + d → (a ≡ b) × (c ≡ d)
sum_of_both a b c d p q e = (omega arith, omega arith)

-- in the slots of the set i has as many games with each team as j has, at both venues
both-le : (n : ℕ) (phased : Bool) (m : Counts) (i j : ℕ) (set : ℕ → Bool) (k : ℕ) → IsExchange n phased m i j set → k < n → both_in_slots n m set i k ≤ both_in_slots n m set j k
both-le n phased m i j set k e lt =
    let first : i < n = omega (arith, e.before, e.last) in
    elim (cases_eq k i) as (λ _. both_in_slots n m set i k ≤ both_in_slots n m set j k) [
      | inl is_i ↦
          let none : in_slots n m set i i ≡ 0 = none-in_slots n m set i i (λ r within _. met-itself n phased m i r e.played first within) in
          let P : ℕ → Type 0 = λ k. both_in_slots n m set i k ≤ both_in_slots n m set j k in
          subst P (sym is_i) (omega (arith, both-add n m set i i, none))
      | inr ne_i ↦ elim (cases_eq k j) as (λ _. both_in_slots n m set i k ≤ both_in_slots n m set j k) [
        | inl is_j ↦
            let none : in_slots n m set i j ≡ 0 = none-in_slots n m set i j (λ r within in_set. (apart n phased m i j set r e within in_set).0) in
            let none_back : in_slots n m set j i ≡ 0 = none-in_slots n m set j i (λ r within in_set. (apart n phased m i j set r e within in_set).1) in
            let P : ℕ → Type 0 = λ k. both_in_slots n m set i k ≤ both_in_slots n m set j k in
            subst P (sym is_j) (omega (arith, both-add n m set i j, none, none_back))
        | inr ne_j ↦ omega (
          arith,
          both-add n m set i k,
          both-add n m set j k,
          home-le n phased m i j set k e lt ne_i ne_j,
          away-le n phased m i j set k e lt ne_i ne_j,
        )
      ]
    ]

both-same : (n : ℕ) (phased : Bool) (m : Counts) (i j : ℕ) (set : ℕ → Bool) (k : ℕ) → IsExchange n phased m i j set → k < n → both_in_slots n m set i k ≡ both_in_slots n m set j k
both-same n phased m i j set k e lt =
    let first : i < n = omega (arith, e.before, e.last) in
    total-squeeze (both_in_slots n m set i) (both_in_slots n m set j) n (λ k lt. both-le n phased m i j set k e lt)
    (games-in_slots n phased m set i (slot_count n) e.played first (omega arith) ∙ sym (games-in_slots n phased m set j (slot_count n) e.played e.last (omega arith)))
    k lt

pub venues-same : (n : ℕ) (phased : Bool) (m : Counts) (i j : ℕ) (set : ℕ → Bool) (k : ℕ) → IsExchange n phased m i j set → k < n → k ≢ i → k ≢ j → (in_slots n m set i k ≡ in_slots n m set j k) × (in_slots n m set k i ≡ in_slots n m set k j)
venues-same n phased m i j set k e lt ne_i ne_j =
    sum_of_both (in_slots n m set i k) (in_slots n m set j k) (in_slots n m set k i) (in_slots n m set k j)
    (home-le n phased m i j set k e lt ne_i ne_j) (away-le n phased m i j set k e lt ne_i ne_j)
    (omega (arith, both-same n phased m i j set k e lt, both-add n m set i k, both-add n m set j k))

mixed-term : (b : Bool) (x y : ℕ) → (if b then x else y) + kept b y ≡ y + kept b x
mixed-term true x y = omega arith
mixed-term false x y = omega arith

-- a sum of terms that are taken from f in the set, and from g elsewhere
mixed : (set : ℕ → Bool) (f g : ℕ → ℕ) (k : ℕ) → total (λ r. if set r then f r else g r) k + total (λ r. kept (set r) (g r)) k ≡ total g k + total (λ r. kept (set r) (f r)) k
mixed set f g k =
    sym (total-add (λ r. if set r then f r else g r) (λ r. kept (set r) (g r)) k)
    ∙ total-same (λ r. (if set r then f r else g r) + kept (set r) (g r)) (λ r. g r + kept (set r) (f r)) k (λ r lt. mixed-term (set r) (f r) (g r))
    ∙ total-add g (λ r. kept (set r) (f r)) k

pair_is : (F : ℕ → ℕ → ℕ) (a b x y : ℕ) → a ≡ x → b ≡ y → F a b ≡ F x y
pair_is F a b x y p q = ap (λ (a : ℕ). F a b) p ∙ ap (F x) q

-- what is symmetric in i and j stays where they are exchanged
moved_to : (F : ℕ → ℕ → ℕ) (a b c d x y : ℕ) → c ≡ x → d ≡ y → F x y ≡ F a b → F c d ≡ F a b
moved_to F a b c d x y p q e = ap (λ (c : ℕ). F c d) p ∙ ap (F x) q ∙ e

all_pairs : (F : ℕ → ℕ → ℕ) (n i j : ℕ) → F i j ≡ F j i → ((k : ℕ) → k < n → k ≢ i → k ≢ j → F i k ≡ F j k) → ((k : ℕ) → k < n → k ≢ i → k ≢ j → F k i ≡ F k j) → (a b : ℕ) → a < n → b < n → a ≢ b → F (exchange i j a) (exchange i j b) ≡ F a b
all_pairs F n i j facing home away a b first second ne =
    let goal : Type 0 = F (exchange i j a) (exchange i j b) ≡ F a b in
    let go : (x y : ℕ) → exchange i j a ≡ x → exchange i j b ≡ y → F x y ≡ F a b → goal = λ x y. moved_to F a b (exchange i j a) (exchange i j b) x y in
    elim (cases_eq a i) as (λ _. goal) [
      | inl a_i ↦ elim (cases_eq b j) as (λ _. goal) [
        | inl b_j ↦ go j i (exchange-first i j a a_i) (exchange-second i j b b_j) (sym facing ∙ sym (pair_is F a b i j a_i b_j))
        | inr b_not_j ↦
            let b_not_i : b ≢ i = λ h. ne (a_i ∙ sym h) in
            go j b (exchange-first i j a a_i) (exchange-other i j b b_not_i b_not_j) (sym (home b second b_not_i b_not_j) ∙ sym (pair_is F a b i b a_i refl))
      ]
      | inr a_not_i ↦ elim (cases_eq a j) as (λ _. goal) [
        | inl a_j ↦ elim (cases_eq b i) as (λ _. goal) [
          | inl b_i ↦ go i j (exchange-second i j a a_j) (exchange-first i j b b_i) (facing ∙ sym (pair_is F a b j i a_j b_i))
          | inr b_not_i ↦
              let b_not_j : b ≢ j = λ h. ne (a_j ∙ sym h) in
              go i b (exchange-second i j a a_j) (exchange-other i j b b_not_i b_not_j) (home b second b_not_i b_not_j ∙ sym (pair_is F a b j b a_j refl))
        ]
        | inr a_not_j ↦ elim (cases_eq b i) as (λ _. goal) [
          | inl b_i ↦ go a j (exchange-other i j a a_not_i a_not_j) (exchange-first i j b b_i) (sym (away a first a_not_i a_not_j) ∙ sym (pair_is F a b a i refl b_i))
          | inr b_not_i ↦ elim (cases_eq b j) as (λ _. goal) [
            | inl b_j ↦ go a i (exchange-other i j a a_not_i a_not_j) (exchange-second i j b b_j) (away a first a_not_i a_not_j ∙ sym (pair_is F a b a j refl b_j))
            | inr b_not_j ↦ go a b (exchange-other i j a a_not_i a_not_j) (exchange-other i j b b_not_i b_not_j) refl
          ]
        ]
      ]
    ]

-- the games of two teams in those of the slots that are in the first half
early-turned : (n : ℕ) (m : Counts) (set : ℕ → Bool) (a b : ℕ) → early_games n m set a b ≡ early_games n m set b a
early-turned n m set a b = total-same (λ r. kept (set r) (met m a b r)) (λ r. kept (set r) (met m b a r)) (n - 1) (λ r lt. ap (kept (set r)) (omega arith))

early-none : (n : ℕ) (m : Counts) (set : ℕ → Bool) (a b : ℕ) → ((r : ℕ) → r < slot_count n → set r ≡ true → met m a b r ≡ 0) → early_games n m set a b ≡ 0
early-none n m set a b none = total-none (λ r. kept (set r) (met m a b r)) (n - 1) (λ r lt. kept-none (set r) (met m a b r) (none r (omega arith)))

pub kept-one : (b : Bool) (x : ℕ) → kept b x ≡ 1 → (b ≡ true) × (x ≡ 1)
kept-one true x one = (refl, one)
kept-one false x one = absurd (omega arith)

is_positive : (x : ℕ) → x ≡ 1 → nat_lt 0 x ≡ true
is_positive x one = grind (arith, nat_tests)

positive : (x : ℕ) → nat_lt 0 x ≡ true → 1 ≤ x
positive x is = grind (arith, nat_tests)

one_or_none : (x : ℕ) → x ≤ 1 → x ≢ 0 → x ≡ 1
one_or_none x le ne = omega arith

early-le-one : (n : ℕ) (m : Counts) (set : ℕ → Bool) (a b : ℕ) → total (λ r. met m a b r) (n - 1) ≡ 1 → early_games n m set a b ≤ 1
early-le-one n m set a b one = omega (arith, total-le (λ r. kept (set r) (met m a b r)) (λ r. met m a b r) (n - 1) (λ r lt. kept-le (set r) (met m a b r)))

early-le : (n : ℕ) (m : Counts) (i j : ℕ) (set : ℕ → Bool) (k : ℕ) → IsExchange n true m i j set → MeetAlike n m i j set → k < n → early_games n m set i k ≤ early_games n m set j k
early-le n m i j set k e alike lt =
    let first : i < n = omega (arith, e.before, e.last) in
    elim (cases_eq k i) as (λ _. early_games n m set i k ≤ early_games n m set j k) [
      | inl is_i ↦
          let none : early_games n m set i i ≡ 0 = early-none n m set i i (λ r within _. omega (arith, met-itself n true m i r e.played first within)) in
          let P : ℕ → Type 0 = λ k. early_games n m set i k ≤ early_games n m set j k in
          subst P (sym is_i) (omega (arith, none))
      | inr ne_i ↦ elim (cases_eq (early_games n m set i k) 0) as (λ _. early_games n m set i k ≤ early_games n m set j k) [
        | inl none ↦ omega (arith, none)
        | inr some ↦
            let is_one : early_games n m set i k ≡ 1 = one_or_none (early_games n m set i k) (early-le-one n m set i k (e.played.halves refl i k first lt (λ h. ne_i (sym h)))) some in
            let one : OneIsOne (λ r. kept (set r) (met m i k r)) (n - 1) = one-of_total (λ r. kept (set r) (met m i k r)) (n - 1) is_one in
            let here : (set one.at ≡ true) × (met m i k one.at ≡ 1) = kept-one (set one.at) (met m i k one.at) one.one in
            omega (arith, is_one, alike one.at k one.below lt here.0 (is_positive (met m i k one.at) here.1))
      ]
    ]

early-same : (n : ℕ) (m : Counts) (i j : ℕ) (set : ℕ → Bool) (k : ℕ) → IsExchange n true m i j set → MeetAlike n m i j set → k < n → early_games n m set i k ≡ early_games n m set j k
early-same n m i j set k e alike lt =
    let first : i < n = omega (arith, e.before, e.last) in
    total-squeeze (early_games n m set i) (early_games n m set j) n (λ k lt. early-le n m i j set k e alike lt)
    (games-in_slots n true m set i (n - 1) e.played first (omega arith) ∙ sym (games-in_slots n true m set j (n - 1) e.played e.last (omega arith)))
    k lt

-- the games of two teams after the exchange
met-mixed : (b : Bool) (x y z w : ℕ) → (if b then x else y) + (if b then z else w) ≡ (if b then x + z else y + w)
met-mixed true x y z w = refl
met-mixed false x y z w = refl

half_mixed : (n : ℕ) (m : Counts) (i j : ℕ) (set : ℕ → Bool) (a b : ℕ) → total (λ r. met (teams_exchanged set i j m) a b r) (n - 1) + early_games n m set a b ≡ total (λ r. met m a b r) (n - 1) + early_games n m set (exchange i j a) (exchange i j b)
half_mixed n m i j set a b =
    let c : ℕ = exchange i j a in
    let d : ℕ = exchange i j b in
    let same : total (λ r. met (teams_exchanged set i j m) a b r) (n - 1) ≡ total (λ r. if set r then met m c d r else met m a b r) (n - 1) =
    total-same (λ r. met (teams_exchanged set i j m) a b r) (λ r. if set r then met m c d r else met m a b r) (n - 1) (λ r lt. met-mixed (set r) (m c d r) (m a b r) (m d c r) (m b a r)) in
    omega (arith, same, mixed set (λ r. met m c d r) (λ r. met m a b r) (n - 1))

cell : (n : ℕ) (phased : Bool) (m : Counts) (i j : ℕ) (set : ℕ → Bool) (a r : ℕ) → IsExchange n phased m i j set → a < n → r < slot_count n → total (λ b. met (teams_exchanged set i j m) a b r) n ≡ 1
cell n phased m i j set a r e lt within =
    let first : i < n = omega (arith, e.before, e.last) in
    elim (cases_Bool (set r)) as (λ _. total (λ b. met (teams_exchanged set i j m) a b r) n ≡ 1) [
      | inl in_set ↦
          total-same (λ b. met (teams_exchanged set i j m) a b r) (λ b. met m (exchange i j a) (exchange i j b) r) n (λ b second. rw in_set refl)
          ∙ total-exchanged_all (λ b. met m (exchange i j a) b r) i j n e.before e.last
          ∙ e.played.cells (exchange i j a) r (exchange-below i j n a first e.last lt) within
      | inr out ↦
          total-same (λ b. met (teams_exchanged set i j m) a b r) (λ b. met m a b r) n (λ b second. rw out refl)
          ∙ e.played.cells a r lt within
    ]

halves_stay : (n : ℕ) (phased : Bool) (m : Counts) (i j : ℕ) (set : ℕ → Bool) → IsExchange n phased m i j set → KeepPhases n phased m i j set → phased ≡ true → (a b : ℕ) → a < n → b < n → a ≢ b → total (λ r. met (teams_exchanged set i j m) a b r) (n - 1) ≡ 1
halves_stay n false m i j set e keep phases a b first second ne = absurd (cc)
halves_stay n true m i j set e keep phases a b first second ne =
    let home : (k : ℕ) → k < n → k ≢ i → k ≢ j → early_games n m set i k ≡ early_games n m set j k = λ k lt _ _. early-same n m i j set k e (keep refl) lt in
    let same : early_games n m set (exchange i j a) (exchange i j b) ≡ early_games n m set a b =
    all_pairs (early_games n m set) n i j (early-turned n m set i j) home
    (λ k lt ne_i ne_j. early-turned n m set k i ∙ home k lt ne_i ne_j ∙ early-turned n m set j k)
    a b first second ne in
    omega (arith, half_mixed n m i j set a b, same, e.played.halves refl a b first second ne)

pub IsPlayed-teams_exchanged : (n : ℕ) (phased : Bool) (m : Counts) (i j : ℕ) (set : ℕ → Bool) → IsExchange n phased m i j set → KeepPhases n phased m i j set → IsPlayed n phased (teams_exchanged set i j m)
IsPlayed-teams_exchanged n phased m i j set e keep = record {
  meetings = λ a b first second ne.
      let facing : in_slots n m set i j ≡ in_slots n m set j i =
      none-in_slots n m set i j (λ r within in_set. (apart n phased m i j set r e within in_set).0) ∙ sym (none-in_slots n m set j i (λ r within in_set. (apart n phased m i j set r e within in_set).1)) in
      let same : in_slots n m set (exchange i j a) (exchange i j b) ≡ in_slots n m set a b =
      all_pairs (in_slots n m set) n i j facing
      (λ k lt ne_i ne_j. (venues-same n phased m i j set k e lt ne_i ne_j).0)
      (λ k lt ne_i ne_j. (venues-same n phased m i j set k e lt ne_i ne_j).1)
      a b first second ne in
      omega (arith, mixed set (λ r. m (exchange i j a) (exchange i j b) r) (λ r. m a b r) (slot_count n), same, e.played.meetings a b first second ne);
  cells = λ a r lt within. cell n phased m i j set a r e lt within;
  halves = λ phases. halves_stay n phased m i j set e keep phases;
}

pub KeepPhases-of : (n : ℕ) (phased : Bool) (m : Counts) (i j : ℕ) (set : ℕ → Bool) → IsExchange n phased m i j set → IsPlayed n phased (teams_exchanged set i j m) → KeepPhases n phased m i j set
KeepPhases-of n phased m i j set e after phases r k early lt in_set meets =
    let first : i < n = omega (arith, e.before, e.last) in
    let within : r < slot_count n = omega arith in
    let some : 1 ≤ met m i k r = positive (met m i k r) meets in
    let ne_i : k ≢ i = λ h. let itself : m i i r ≡ 0 = met-itself n phased m i r e.played first within in let at : met m i k r ≡ met m i i r = ap (λ (k : ℕ). met m i k r) h in omega arith in
    let ne_j : k ≢ j = λ h. let none = apart n phased m i j set r e within in_set in let at : met m i k r ≡ met m i j r = ap (λ (k : ℕ). met m i k r) h in omega (arith, none.0, none.1) in
    let here : kept (set r) (met m i k r) ≡ met m i k r = rw in_set refl in
    let least : kept (set r) (met m i k r) ≤ early_games n m set i k = term-le-total (λ r. kept (set r) (met m i k r)) (n - 1) r early in
    let ex_i : early_games n m set (exchange i j i) (exchange i j k) ≡ early_games n m set j k =
    ap (λ (a : ℕ). early_games n m set a (exchange i j k)) (exchange-first i j i refl) ∙ ap (early_games n m set j) (exchange-other i j k ne_i ne_j) in
    omega (arith, half_mixed n m i j set i k, ex_i, after.halves phases i k first lt (λ h. ne_i (sym h)), e.played.halves phases i k first lt (λ h. ne_i (sym h)), here, least, some)
