-- What the three counts of a round robin mean: they are 0 exactly where each two teams meet once at each venue, each
-- team has one game in each slot, and, in a phased league, each two teams meet once in the first half.
use Rattle.std.proofs.Common.{◌≡◌, ◌≢◌, ℕ, zero, suc, ◌+◌, ◌-◌, ◌<◌, ◌≤◌, Bool, true, false, not, ◌&&◌, ◌==◌, [], ◌∷◌, length, refl, arith, ap, ◌∙◌, sym, ◌↔◌}
use Rattle.std.proofs.lemmas.Bool.Decides.{nat_tests}
use Rattle.std.proofs.lemmas.List.FromFn.{get_or-range_with_len, length-range_with_len}
use Rattle.std.specs.List.{count_by, range_with_len, sum_by}
use Rattle.league.specs.Counts.{Counts, slot_count, slots_of, teams_of}
use Rattle.league.specs.Meetings.{games_of, pairs_of}
use Rattle.league.specs.Structure.{IsPlayedOnce, IsRoundRobin, cells_wrong, first_half, isnt_one, pairs_wrong, phases_wrong}
use Rattle.league.specs.Venues.{games_on}
use Rattle.league.specs.declared.class.Side.TheVariants.{Both}
use Rattle.league.proofs.AcceptedLemmas.{All-from_sum_zero, sum_zero-from_All}
use Rattle.league.proofs.MeetingLemmas.{count_by-meetings_of, count_by-pairs_from}
use Rattle.league.proofs.RangeLemmas.{one_if}

-- a sum over a range is 0 where each of its terms is
each_term : (f : ℕ → ℕ) (a k i : ℕ) → sum_by f (range_with_len a k) ≡ 0 → i < k → f (a + i) ≡ 0
each_term f a k i none lt =
    let within : i < length (range_with_len a k) = omega (arith, length-range_with_len a k) in
    sym (ap f (get_or-range_with_len a k i 0 lt)) ∙ All-from_sum_zero f (range_with_len a k) none i 0 within

no_term : (f : ℕ → ℕ) (a k : ℕ) → ((i : ℕ) → i < k → f (a + i) ≡ 0) → sum_by f (range_with_len a k) ≡ 0
no_term f a k none =
    sum_zero-from_All f (range_with_len a k)
    (λ i d lt. let within : i < k = omega (arith, length-range_with_len a k) in ap f (get_or-range_with_len a k i d within) ∙ none i within)

-- each term of a sum over a range from 0 on is 0 where the sum is
each_below : (f : ℕ → ℕ) (k i : ℕ) → sum_by f (range_with_len 0 k) ≡ 0 → i < k → f i ≡ 0
each_below f k i none lt = let from_zero : 0 + i ≡ i = omega arith in sym (ap f from_zero) ∙ each_term f 0 k i none lt

none_below : (f : ℕ → ℕ) (k : ℕ) → ((i : ℕ) → i < k → f i ≡ 0) → sum_by f (range_with_len 0 k) ≡ 0
none_below f k none = no_term f 0 k (λ i lt. let from_zero : 0 + i ≡ i = omega arith in ap f from_zero ∙ none i lt)

one_where_right : (x : ℕ) → one_if (isnt_one x) ≡ 0 → x ≡ 1
one_where_right x h = grind (arith, nat_tests)

right_where_one : (x : ℕ) → x ≡ 1 → one_if (isnt_one x) ≡ 0
right_where_one x h = grind (arith, nat_tests)

one_where_different : (i j x : ℕ) → i ≢ j → one_if (not (j == i) && isnt_one x) ≡ 0 → x ≡ 1
one_where_different i j x differ h = grind (arith, nat_tests)

pub right_where_different : (i j x : ℕ) → (i ≢ j → x ≡ 1) → one_if (not (j == i) && isnt_one x) ≡ 0
right_where_different i j x h = grind (arith, nat_tests)

-- each meeting takes place once
pub meets_once : (n : ℕ) (m : Counts) (i j : ℕ) → pairs_wrong n m ≡ 0 → i < n → j < n → i ≢ j → games_of m ((i, j) ∷ []) (slots_of n) ≡ 1
meets_once n m i j none first second differ =
    let games : ℕ → ℕ → ℕ = λ i j. games_of m ((i, j) ∷ []) (slots_of n) in
    let by_team : ℕ → ℕ = λ i. count_by (λ j. not (j == i) && isnt_one (games i j)) (teams_of n) in
    let all : sum_by by_team (teams_of n) ≡ 0 = sym (count_by-meetings_of (λ p. isnt_one (games_of m (p ∷ []) (slots_of n))) n) ∙ none in
    let row : by_team i ≡ 0 = each_below by_team n i all first in
    one_where_different i j (games i j) differ (each_below (λ j. one_if (not (j == i) && isnt_one (games i j))) n j row second)

pub pairs_right : (n : ℕ) (m : Counts) → ((i j : ℕ) → i < n → j < n → i ≢ j → games_of m ((i, j) ∷ []) (slots_of n) ≡ 1) → pairs_wrong n m ≡ 0
pairs_right n m once =
    let games : ℕ → ℕ → ℕ = λ i j. games_of m ((i, j) ∷ []) (slots_of n) in
    let by_team : ℕ → ℕ = λ i. count_by (λ j. not (j == i) && isnt_one (games i j)) (teams_of n) in
    let row : (i : ℕ) → i < n → by_team i ≡ 0 = λ i first. none_below (λ j. one_if (not (j == i) && isnt_one (games i j))) n (λ j second. right_where_different i j (games i j) (once i j first second)) in
    count_by-meetings_of (λ p. isnt_one (games_of m (p ∷ []) (slots_of n))) n ∙ none_below by_team n row

-- each team has one game in each slot
pub plays_once : (n : ℕ) (m : Counts) (i s : ℕ) → cells_wrong n m ≡ 0 → i < n → s < slot_count n → games_on n m Both i s ≡ 1
plays_once n m i s none team slot =
    let row = each_below (λ i. count_by (λ s. isnt_one (games_on n m Both i s)) (slots_of n)) n i none team in
    one_where_right (games_on n m Both i s) (each_below (λ s. one_if (isnt_one (games_on n m Both i s))) (slot_count n) s row slot)

pub cells_right : (n : ℕ) (m : Counts) → ((i s : ℕ) → i < n → s < slot_count n → games_on n m Both i s ≡ 1) → cells_wrong n m ≡ 0
cells_right n m once =
    none_below (λ i. count_by (λ s. isnt_one (games_on n m Both i s)) (slots_of n)) n
    (λ i team. none_below (λ s. one_if (isnt_one (games_on n m Both i s))) (slot_count n) (λ s slot. right_where_one (games_on n m Both i s) (once i s team slot)))

-- the pairs of the teams from i on, where all pairs pass
pairs_from : (p : ℕ × ℕ → Bool) (n i : ℕ) → count_by p (pairs_of (teams_of n)) ≡ 0 → i ≤ n → count_by p (pairs_of (range_with_len i (n - i))) ≡ 0
pairs_from p n zero none le =
    let whole : ℕ → ℕ = λ k. count_by p (pairs_of (range_with_len 0 k)) in
    let all : n - 0 ≡ n = omega arith in
    ap whole all ∙ none
pairs_from p n (suc i) none le =
    let part : ℕ → ℕ = λ k. count_by p (pairs_of (range_with_len k (n - k))) in
    let more : i + 1 ≡ suc i = omega arith in
    omega (arith, pairs_from p n i none (omega arith), count_by-pairs_from p i n (omega arith), ap part more)

-- in a phased league each two teams meet once in the first half
pub meets_once_in_first_half : (n : ℕ) (m : Counts) (i j : ℕ) → phases_wrong n true m ≡ 0 → i < j → j < n → games_of m ((i, j) ∷ (j, i) ∷ []) (first_half n) ≡ 1
meets_once_in_first_half n m i j none before last =
    let games : ℕ → ℕ = λ j. games_of m ((i, j) ∷ (j, i) ∷ []) (first_half n) in
    let p : ℕ × ℕ → Bool = λ p. isnt_one (games_of m (p ∷ (p.1, p.0) ∷ []) (first_half n)) in
    let row : count_by (λ j. p (i, j)) (range_with_len (i + 1) (n - (i + 1))) ≡ 0 = omega (arith, pairs_from p n i none (omega arith), count_by-pairs_from p i n (omega arith)) in
    let place : i + 1 + (j - (i + 1)) ≡ j = omega arith in
    let here = each_term (λ j. one_if (isnt_one (games j))) (i + 1) (n - (i + 1)) (j - (i + 1)) row (omega arith) in
    one_where_right (games j) (sym (ap (λ (j : ℕ). one_if (isnt_one (games j))) place) ∙ here)

-- the pairs of k teams from i on, where each passes
no_pair : (p : ℕ × ℕ → Bool) (n k : ℕ) → ((i j : ℕ) → i < j → j < n → one_if (p (i, j)) ≡ 0) → k ≤ n → count_by p (pairs_of (range_with_len (n - k) k)) ≡ 0
no_pair p n zero once le = refl
no_pair p n (suc k) once le =
    let i : ℕ = n - suc k in
    let part : ℕ → ℕ → ℕ = λ a b. count_by p (pairs_of (range_with_len a b)) in
    let here : n - i ≡ suc k = omega arith in
    let start : i + 1 ≡ n - k = omega arith in
    let rest : n - (i + 1) ≡ k = omega arith in
    let row : count_by (λ j. p (i, j)) (range_with_len (i + 1) (n - (i + 1))) ≡ 0 = no_term (λ j. one_if (p (i, j))) (i + 1) (n - (i + 1)) (λ l lt. once i (i + 1 + l) (omega arith) (omega arith)) in
    omega (arith, no_pair p n k once (omega arith), count_by-pairs_from p i n (omega arith), row, ap (part i) here, ap (part (i + 1)) rest, ap (λ (a : ℕ). part a k) start)

pub phases_right : (n : ℕ) (m : Counts) → ((i j : ℕ) → i < j → j < n → games_of m ((i, j) ∷ (j, i) ∷ []) (first_half n) ≡ 1) → phases_wrong n true m ≡ 0
phases_right n m once =
    let p : ℕ × ℕ → Bool = λ p. isnt_one (games_of m (p ∷ (p.1, p.0) ∷ []) (first_half n)) in
    let part : ℕ → ℕ = λ a. count_by p (pairs_of (range_with_len a n)) in
    let start : n - n ≡ 0 = omega arith in
    sym (ap part start) ∙ no_pair p n n (λ i j before last. right_where_one (games_of m ((i, j) ∷ (j, i) ∷ []) (first_half n)) (once i j before last)) (omega arith)

phases_right-of : (n : ℕ) (phased : Bool) (m : Counts) → (phased ≡ true → (i j : ℕ) → i < j → j < n → games_of m ((i, j) ∷ (j, i) ∷ []) (first_half n) ≡ 1) → phases_wrong n phased m ≡ 0
phases_right-of n true m once = phases_right n m (once refl)
phases_right-of n false m once = refl

halves_once : (n : ℕ) (phased : Bool) (m : Counts) → phases_wrong n phased m ≡ 0 → phased ≡ true → (i j : ℕ) → i < j → j < n → games_of m ((i, j) ∷ (j, i) ∷ []) (first_half n) ≡ 1
halves_once n true m none is i j before last = meets_once_in_first_half n m i j none before last
halves_once n false m none is i j before last = absurd (cc)

-- three numbers that are the counts are 0 exactly where everything is played once
pub none_wrong : (n : ℕ) (phased : Bool) (m : Counts) (pairs cells phases : ℕ) → pairs ≡ pairs_wrong n m → cells ≡ cells_wrong n m → phases ≡ phases_wrong n phased m → ((pairs ≡ 0) × (cells ≡ 0) × (phases ≡ 0)) ↔ IsPlayedOnce n phased m
none_wrong n phased m pairs cells phases pairs_are cells_are phases_are = (
  λ none. record {
    meetings = λ i j. meets_once n m i j (sym pairs_are ∙ none.0);
    cells = λ i s. plays_once n m i s (sym cells_are ∙ none.1);
    halves = halves_once n phased m (sym phases_are ∙ none.2);
  },
  λ once. (pairs_are ∙ pairs_right n m once.meetings, cells_are ∙ cells_right n m once.cells, phases_are ∙ phases_right-of n phased m once.halves),
)

-- a double round robin in two phases is one of any league of its teams
pub any_phases : (n : ℕ) (phased : Bool) (m : Counts) → IsRoundRobin n true m → IsRoundRobin n phased m
any_phases n true m is = is
any_phases n false m is = record { pairs = is.pairs; cells = is.cells; phases = refl }

pub IsPlayedOnce-of : (n : ℕ) (phased : Bool) (m : Counts) → IsRoundRobin n phased m → IsPlayedOnce n phased m
IsPlayedOnce-of n phased m is =
    (none_wrong n phased m (pairs_wrong n m) (cells_wrong n m) (phases_wrong n phased m) refl refl refl).0
    (is.pairs, is.cells, is.phases)
