-- The double circle schedule is a double round robin in two phases.
use Rattle.std.proofs.Common.{◌≡◌, ℕ, ◌+◌, ◌-◌, ◌*◌, ◌/◌, ◌%◌, ◌<◌, ◌≤◌, ◌&&◌, ◌==◌, zero, suc, inl, inr, Bool, true, false, not, cond, List, [], ◌∷◌, length, map, refl, arith, ap, ◌∙◌, subst, sym, length-append}
use Rattle.std.proofs.lemmas.Bool.{cases_lt}
use Rattle.std.proofs.lemmas.List.{length-map}
use Rattle.std.proofs.lemmas.List.Concat.{length-flat_map}
use Rattle.std.proofs.lemmas.List.FromFn.{length-map-range_with_len}
use Rattle.std.proofs.lemmas.List.Sums.{sum_by-append}
use Rattle.std.specs.List.{All, count_by, range_with_len, sum_by}
use Rattle.league.specs.Counts.{counts_of, slots_of, slot_count, teams_of}
use Rattle.league.specs.Instance.{IsGame, IsTeamCount}
use Rattle.league.specs.Meetings.{games_of, pairs_of}
use Rattle.league.specs.Structure.{IsRoundRobin, cells_wrong, first_half, isnt_one, pairs_wrong, phases_wrong}
use Rattle.league.specs.Venues.{games_on}
use Rattle.league.specs.declared.class.Side.TheVariants.{Both}
use Rattle.league.specs.declared.game.Game.{Game}
use Rattle.league.proofs.MeetingLemmas.{count_by-meetings_of}
use Rattle.league.proofs.RangeLemmas.{one_if}
use Rattle.league.proofs.SumLemmas.{sum_by-map}
use Rattle.league.proofs.RoundRobinLemmas.{right_where_different}
use Rattle.circle_method.specs.Circle.{circle_game, slot_games, single_games, return_game, double_games}
use Rattle.circle_method.proofs.CircleLemmas.{is_at_home}
use Rattle.circle_method.proofs.GameLemmas.{IsGame-double_games}
use Rattle.circle_method.proofs.MeetingLemmas.{meeting-once, half-once}
use Rattle.league.proofs.OneTermLemmas.{sum_by-range_none, sum_by-range_equal}
use Rattle.circle_method.proofs.VenueLemmas.{home_games-first, away_games-first, home_games-second, away_games-second}

-- a count of pairs in a range none of which passes
count_by-pairs_none : (p : ℕ × ℕ → Bool) (a k : ℕ) → ((i j : ℕ) → a ≤ i → i < j → j < a + k → p (i, j) ≡ false) → count_by p (pairs_of (range_with_len a k)) ≡ 0
count_by-pairs_none p a zero none = refl
count_by-pairs_none p a (suc k) none =
    let later : ℕ × ℕ → ℕ = λ m. cond (p m) 1 0 in
    let here : sum_by (λ j. later (a, j)) (range_with_len (a + 1) k) ≡ 0 = sum_by-range_none (λ j. later (a, j)) (a + 1) k (λ j low high. ap (λ (b : Bool). cond b 1 0) (none a j (omega arith) (omega arith) (omega arith))) in
    let rest : count_by p (pairs_of (range_with_len (a + 1) k)) ≡ 0 = count_by-pairs_none p (a + 1) k (λ i j low order high. none i j (omega arith) order (omega arith)) in
    omega (arith, sum_by-append later (map (λ j. (a, j)) (range_with_len (a + 1) k)) (pairs_of (range_with_len (a + 1) k)), sum_by-map later (λ j. (a, j)) (range_with_len (a + 1) k), here, rest)

-- a test of a number that is 1
isnt_one-no : (x : ℕ) → x ≡ 1 → isnt_one x ≡ false
isnt_one-no x is = ap isnt_one is

pairs : (n : ℕ) → IsTeamCount n → pairs_wrong n (counts_of (double_games n)) ≡ 0
pairs n size =
    let x : ℕ → ℕ → ℕ = λ i j. games_of (counts_of (double_games n)) ((i, j) ∷ []) (slots_of n) in
    count_by-meetings_of (λ p. isnt_one (games_of (counts_of (double_games n)) (p ∷ []) (slots_of n))) n
    ∙ sum_by-range_none (λ i. count_by (λ j. not (j == i) && isnt_one (x i j)) (teams_of n)) 0 n (λ i low high.
    sum_by-range_none (λ j. cond (not (j == i) && isnt_one (x i j)) 1 0) 0 n (λ j low_too high_too. right_where_different i j (x i j) (λ differ. meeting-once n i j size (omega arith) (omega arith) differ)))

one_venue : (b : Bool) → one_if b + one_if (not b) ≡ 1
one_venue true = refl
one_venue false = refl

cell-second : (n i s t : ℕ) → IsTeamCount n → i < n → t < n - 1 → t + (n - 1) ≡ s → games_on n (counts_of (double_games n)) Both i s ≡ 1
cell-second n i s t size team slot later =
    let once : games_on n (counts_of (double_games n)) Both i (t + (n - 1)) ≡ 1 = omega (arith, home_games-second n i t size team slot, away_games-second n i t size team slot, one_venue (is_at_home (n - 1) i t)) in
    ap (λ (x : ℕ). games_on n (counts_of (double_games n)) Both i x) (sym later) ∙ once

-- each team plays once in each slot
pub cell : (n i s : ℕ) → IsTeamCount n → i < n → s < slot_count n → games_on n (counts_of (double_games n)) Both i s ≡ 1
cell n i s size team slot =
    elim (cases_lt s (n - 1)) as (λ _. games_on n (counts_of (double_games n)) Both i s ≡ 1) [
      | inl early ↦ omega (arith, home_games-first n i s size team early, away_games-first n i s size team early, one_venue (is_at_home (n - 1) i s))
      | inr late ↦ cell-second n i s (s - (n - 1)) size team (omega arith) (omega arith)
    ]

cells : (n : ℕ) → IsTeamCount n → cells_wrong n (counts_of (double_games n)) ≡ 0
cells n size =
    sum_by-range_none (λ i. count_by (λ s. isnt_one (games_on n (counts_of (double_games n)) Both i s)) (slots_of n)) 0 n (λ i low high.
    sum_by-range_none (λ s. cond (isnt_one (games_on n (counts_of (double_games n)) Both i s)) 1 0) 0 (slot_count n) (λ s low_too high_too. ap (λ (b : Bool). cond b 1 0) (isnt_one-no (games_on n (counts_of (double_games n)) Both i s) (cell n i s size (omega arith) (omega arith)))))

phases : (n : ℕ) → IsTeamCount n → phases_wrong n true (counts_of (double_games n)) ≡ 0
phases n size =
    count_by-pairs_none (λ p. isnt_one (games_of (counts_of (double_games n)) (p ∷ (p.1, p.0) ∷ []) (first_half n))) 0 n
    (λ i j low order high. isnt_one-no (games_of (counts_of (double_games n)) ((i, j) ∷ (j, i) ∷ []) (first_half n))
    (half-once n i j size (omega arith) (omega arith) (λ e. omega arith)))

-- the law of the double round robin
pub IsRoundRobin-double_games : (n : ℕ) → IsTeamCount n → IsRoundRobin n true (counts_of (double_games n))
IsRoundRobin-double_games n size = record { pairs = pairs n size; cells = cells n size; phases = phases n size }

-- the number of games
length-slot_games : (n s : ℕ) → IsTeamCount n → length (slot_games n s) ≡ n / 2
length-slot_games n s size =
    let some : 2 ≤ n = size.at_least in
    omega (arith, length-map-range_with_len (circle_game n s) 1 (n / 2 - 1))

pub length-single_games : (n : ℕ) → IsTeamCount n → length (single_games n) ≡ (n - 1) * (n / 2)
length-single_games n size =
    length-flat_map (slot_games n) (range_with_len 0 (n - 1)) ∙ sum_by-range_equal (λ s. length (slot_games n s)) (n / 2) 0 (n - 1) (λ s low high. length-slot_games n s size)

twice : (n m h length : ℕ) → n ≡ h + h → length ≡ m * h → length + length ≡ n * m
twice n m h length halves is =
    let product : n * m ≡ (h + h) * m = ap (λ (x : ℕ). x * m) halves in
    omega arith

pub length-double_games : (n : ℕ) → IsTeamCount n → length (double_games n) ≡ n * (n - 1)
length-double_games n size =
    let even : n % 2 ≡ 0 = size.even in
    let halves : n ≡ n / 2 + n / 2 = omega arith in
    let whole : length (double_games n) ≡ length (single_games n) + length (single_games n) = omega (arith, length-append (single_games n) (map (return_game n) (single_games n)), length-map (single_games n) (return_game n)) in
    whole ∙ twice n (n - 1) (n / 2) (length (single_games n)) halves (length-single_games n size)

-- the laws of a list of games that is the double circle schedule
pub round_robin_of : (n : ℕ) (games : List Game) → IsTeamCount n → games ≡ double_games n → IsRoundRobin n true (counts_of games)
round_robin_of n games size is =
    let P : List Game → Type 0 = λ xs. IsRoundRobin n true (counts_of xs) in
    subst P (sym is) (IsRoundRobin-double_games n size)

pub fit_of : (n : ℕ) (games : List Game) → IsTeamCount n → games ≡ double_games n → All (IsGame n) games
fit_of n games size is =
    let P : List Game → Type 0 = λ xs. All (IsGame n) xs in
    subst P (sym is) (IsGame-double_games n size)

pub count_of_games : (n : ℕ) (games : List Game) → IsTeamCount n → games ≡ double_games n → length games ≡ n * (n - 1)
count_of_games n games size is = ap length is ∙ length-double_games n size
