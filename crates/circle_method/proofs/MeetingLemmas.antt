-- Any two teams meet once in the single round robin.
use Rattle.std.proofs.Common.{◌≡◌, ◌≢◌, ℕ, ◌+◌, ◌-◌, ◌/◌, ◌%◌, ◌<◌, ◌&&◌, ◌==◌, nat_lt, inl, inr, Bool, true, false, List, [], ◌∷◌, refl, arith, ap, ◌∙◌, sym}
use Rattle.std.proofs.lemmas.Bool.{and_from, and_left, and_right, cases_eq, cases_lt, eq-eqb, ne_eqb}
use Rattle.std.proofs.lemmas.Bool.Decides.{nat_tests}
use Rattle.std.specs.List.{range_with_len, sum_by}
use Rattle.league.specs.Counts.{counts_of, is_game, slot_count}
use Rattle.league.specs.Instance.{IsGame, IsTeamCount}
use Rattle.league.specs.Meetings.{games_of}
use Rattle.league.specs.declared.game.Game.{Game}
use Rattle.league.proofs.RangeLemmas.{one_if}
use Rattle.league.proofs.SumLemmas.{sum_by-add, sum_by-flat_map, sum_by-same}
use Rattle.league.proofs.CountLemmas.{and_below, and_not_below}
use Rattle.circle_method.specs.Circle.{game_of, last_team_game, circle_game, slot_games, single_games, return_game, double_games, steps_on, steps_back}
use Rattle.circle_method.proofs.CircleLemmas.{AreReached, are_reached, AreMet, meeting, AreMet-slot, AreMet-step}
use Rattle.circle_method.proofs.GameLemmas.{IsEarly, IsEarly-single_games, IsGame-double_games}
use Rattle.league.proofs.OneTermLemmas.{sum_by-all_none, sum_by-all_same, sum_by-range_none, sum_by-range_one, sum_by-swap}
use Rattle.circle_method.proofs.VenueLemmas.{circle_none, circle_one, sum_by-double_games, sum_by-slot_games}

-- how often a game is one of team i at home to team j, in any slot
abbrev pub is_meeting : ℕ → ℕ → Game → ℕ
is_meeting i j g = one_if ((g.home.0 == i) && (g.away.0 == j))

-- how often a game is one of teams i and j, at either's venue
abbrev pub is_between : ℕ → ℕ → Game → ℕ
is_between i j g = is_meeting i j g + is_meeting j i g

tests-both : (x y i j : ℕ) → x ≡ i → y ≡ j → one_if ((x == i) && (y == j)) ≡ 1
tests-both x y i j first second = ap one_if (and_from (x == i) (y == j) (eq-eqb x i first) (eq-eqb y j second))

tests-none : (x y i j : ℕ) → (x ≡ i → y ≢ j) → one_if ((x == i) && (y == j)) ≡ 0
tests-none x y i j other =
    elim (cases_eq x i) as (λ _. one_if ((x == i) && (y == j)) ≡ 0) [
      | inl first ↦ ap one_if (and_right (x == i) (y == j) (ne_eqb y j (other first)))
      | inr first ↦ ap one_if (and_left (x == i) (y == j) (ne_eqb x i first))
    ]

-- a game of these two teams
between-one : (b : Bool) (x y s i j : ℕ) → i ≢ j → x ≡ i → y ≡ j → is_between i j (game_of b x y s) ≡ 1
between-one true x y s i j differ first second = omega (arith, tests-both x y i j first second, tests-none x y j i (λ e f. differ (sym first ∙ e)))
between-one false x y s i j differ first second = omega (arith, tests-both y x j i second first, tests-none y x i j (λ e f. differ (sym first ∙ f)))

between-swap : (i j : ℕ) (g : Game) → is_between i j g ≡ is_between j i g
between-swap i j g = omega arith

-- a game of other teams
between-none : (b : Bool) (x y s i j : ℕ) → (x ≡ i → y ≢ j) → (x ≡ j → y ≢ i) → is_between i j (game_of b x y s) ≡ 0
between-none true x y s i j first second = omega (arith, tests-none x y i j first, tests-none x y j i second)
between-none false x y s i j first second = omega (arith, tests-none y x i j (λ e f. second f e), tests-none y x j i (λ e f. first f e))

-- the games of two teams in a slot
abbrev between_in : ℕ → ℕ → ℕ → ℕ → ℕ
between_in n i j s = sum_by (is_between i j) (slot_games n s)

-- the last team has no game in the circle
last-none : (n i j s : ℕ) → IsTeamCount n → j ≡ n - 1 → s < n - 1 → sum_by (λ x. is_between i j (circle_game n s x)) (range_with_len 1 (n / 2 - 1)) ≡ 0
last-none n i j s size last slot =
    circle_none (is_between i j) n s size (λ x some half.
    let r : AreReached (n - 1) s x (steps_on (n - 1) s x) (steps_back (n - 1) s x) = are_reached (n - 1) s x slot (omega arith) in
    between-none (x % 2 == 1) (steps_on (n - 1) s x) (steps_back (n - 1) s x) s i j (λ e f. omega (arith, r.back_below)) (λ e f. omega (arith, r.on_below)))

-- the last team meets team i in slot i
last-meets : (n i j s : ℕ) → IsTeamCount n → i < j → j ≡ n - 1 → s < n - 1 → s ≡ i → between_in n i j s ≡ 1
last-meets n i j s size earlier last slot here =
    let first : is_between j i (last_team_game n s) ≡ 1 = between-one (s % 2 == 0) (n - 1) s s j i (λ e. omega arith) (sym last) here in
    omega (arith, sum_by-slot_games (is_between i j) n s, first, last-none n i j s size last slot)

-- the last team meets team i in no other slot
last-meets_not : (n i j s : ℕ) → IsTeamCount n → i < j → j ≡ n - 1 → s < n - 1 → s ≢ i → between_in n i j s ≡ 0
last-meets_not n i j s size earlier last slot other =
    let first : is_between i j (last_team_game n s) ≡ 0 = between-none (s % 2 == 0) (n - 1) s s i j (λ e f. omega arith) (λ e f. other f) in
    omega (arith, sum_by-slot_games (is_between i j) n s, first, last-none n i j s size last slot)

-- teams of the circle don't meet where they aren't met
circle-meets_not : (n i j s : ℕ) → IsTeamCount n → i < j → j < n - 1 → s < n - 1 → ((k : ℕ) → AreMet (n - 1) i j s k → ⊥) → between_in n i j s ≡ 0
circle-meets_not n i j s size earlier inside slot apart =
    let first : is_between i j (last_team_game n s) ≡ 0 = between-none (s % 2 == 0) (n - 1) s s i j (λ e f. omega arith) (λ e f. omega arith) in
    let others : sum_by (λ x. is_between i j (circle_game n s x)) (range_with_len 1 (n / 2 - 1)) ≡ 0 =
    circle_none (is_between i j) n s size (λ x some half.
    between-none (x % 2 == 1) (steps_on (n - 1) s x) (steps_back (n - 1) s x) s i j
    (λ e f. apart x (record { slot = slot; some = some; half = half; here = inl (e, f) }))
    (λ e f. apart x (record { slot = slot; some = some; half = half; here = inr (e, f) }))) in
    omega (arith, sum_by-slot_games (is_between i j) n s, first, others)

-- the game at the step at which they meet
at_met : (n i j s k : ℕ) → i ≢ j → AreMet (n - 1) i j s k → is_between i j (circle_game n s k) ≡ 1
at_met n i j s k differ met =
    elim met.here as (λ _. is_between i j (circle_game n s k) ≡ 1) [
      | inl h ↦ between-one (k % 2 == 1) (steps_on (n - 1) s k) (steps_back (n - 1) s k) s i j differ h.0 h.1
      | inr h ↦ between-swap i j (circle_game n s k) ∙ between-one (k % 2 == 1) (steps_on (n - 1) s k) (steps_back (n - 1) s k) s j i (λ e. differ (sym e)) h.0 h.1
    ]

-- teams of the circle meet once where they are met
circle-meets : (n i j s k : ℕ) → IsTeamCount n → i < j → j < n - 1 → AreMet (n - 1) i j s k → between_in n i j s ≡ 1
circle-meets n i j s k size earlier inside met =
    let slot : s < n - 1 = met.slot in
    let first : is_between i j (last_team_game n s) ≡ 0 = between-none (s % 2 == 0) (n - 1) s s i j (λ e f. omega arith) (λ e f. omega arith) in
    let others : sum_by (λ x. is_between i j (circle_game n s x)) (range_with_len 1 (n / 2 - 1)) ≡ is_between i j (circle_game n s k) =
    circle_one (is_between i j) n s k size met.some met.half (λ x some half other.
    between-none (x % 2 == 1) (steps_on (n - 1) s x) (steps_back (n - 1) s x) s i j
    (λ e f. other (AreMet-step (n - 1) i j s x k (record { slot = slot; some = some; half = half; here = inl (e, f) }) met))
    (λ e f. other (AreMet-step (n - 1) i j s x k (record { slot = slot; some = some; half = half; here = inr (e, f) }) met))) in
    let here : is_between i j (circle_game n s k) ≡ 1 = at_met n i j s k (λ e. omega arith) met in
    omega (arith, sum_by-slot_games (is_between i j) n s, first, others, here)

-- a sum over the single round robin, slot by slot
by_slots : (f : Game → ℕ) (n s : ℕ) → s < n - 1 → ((t : ℕ) → t < n - 1 → t ≢ s → sum_by f (slot_games n t) ≡ 0) → sum_by f (single_games n) ≡ sum_by f (slot_games n s)
by_slots f n s slot none =
    sum_by-flat_map f (slot_games n) (range_with_len 0 (n - 1))
    ∙ sum_by-range_one (λ t. sum_by f (slot_games n t)) 0 (n - 1) s (omega arith) (omega arith) (λ t low high other. none t (omega arith) other)

-- two teams of the circle meet once
circle-once : (n i j s k : ℕ) → IsTeamCount n → (n - 1) % 2 ≡ 1 → i < j → j < n - 1 → AreMet (n - 1) i j s k → sum_by (is_between i j) (single_games n) ≡ 1
circle-once n i j s k size odd earlier inside met =
    by_slots (is_between i j) n s met.slot (λ t slot other. circle-meets_not n i j t size earlier inside slot (λ l at. other (AreMet-slot (n - 1) i j t l s k odd at met)))
    ∙ circle-meets n i j s k size earlier inside met

-- two teams in order meet once
between-earlier : (n i j : ℕ) → IsTeamCount n → i < j → j < n → sum_by (is_between i j) (single_games n) ≡ 1
between-earlier n i j size earlier team =
    elim (cases_eq j (n - 1)) as (λ _. sum_by (is_between i j) (single_games n) ≡ 1) [
      | inl last ↦
          by_slots (is_between i j) n i (omega arith) (λ t slot other. last-meets_not n i j t size earlier last slot other)
          ∙ last-meets n i j i size earlier last (omega arith) refl
      | inr not_last ↦
          let odd : (n - 1) % 2 ≡ 1 = (let even : n % 2 ≡ 0 = size.even in omega arith) in
          let found : (s : ℕ) × ((k : ℕ) × AreMet (n - 1) i j s k) = meeting (n - 1) i j odd earlier (omega arith) in
          circle-once n i j found.0 found.1.0 size odd earlier (omega arith) found.1.1
    ]

-- any two teams meet once
pub between-single_games : (n i j : ℕ) → IsTeamCount n → i < n → j < n → i ≢ j → sum_by (is_between i j) (single_games n) ≡ 1
between-single_games n i j size first second differ =
    elim (cases_lt i j) as (λ _. sum_by (is_between i j) (single_games n) ≡ 1) [
      | inl earlier ↦ between-earlier n i j size earlier second
      | inr later ↦ sum_by-same (is_between i j) (is_between j i) (between-swap i j) (single_games n) ∙ between-earlier n j i size (omega arith) first
    ]

here_slot : (b : Bool) (x : ℕ) → one_if (b && (x == x)) ≡ one_if b
here_slot b x = grind (arith, nat_tests)

other_slot : (b : Bool) (x y : ℕ) → y ≢ x → one_if (b && (x == y)) ≡ 0
other_slot b x y other = grind (arith, nat_tests)

-- a game in one of the first k slots
in_slots : (b : Bool) (x k : ℕ) → sum_by (λ s. one_if (b && (x == s))) (range_with_len 0 k) ≡ one_if (b && nat_lt x k)
in_slots b x k =
    elim (cases_lt x k) as (λ _. sum_by (λ s. one_if (b && (x == s))) (range_with_len 0 k) ≡ one_if (b && nat_lt x k)) [
      | inl low ↦
          sum_by-range_one (λ s. one_if (b && (x == s))) 0 k x (omega arith) (omega arith) (λ s l h other. other_slot b x s other) ∙ here_slot b x ∙ sym (and_below b x k low)
      | inr high ↦
          sum_by-range_none (λ s. one_if (b && (x == s))) 0 k (λ s l h. other_slot b x s (λ e. omega arith)) ∙ sym (and_not_below b x k high)
    ]

-- games of a meeting in the first k slots, game by game
games_of-counts_of : (i j k : ℕ) (games : List Game) → games_of (counts_of games) ((i, j) ∷ []) (range_with_len 0 k) ≡ sum_by (λ g. one_if ((g.home.0 == i) && (g.away.0 == j) && nat_lt g.slot.0 k)) games
games_of-counts_of i j k games =
    let by_game : sum_by (λ s. sum_by (λ g. one_if (is_game i j s g)) games) (range_with_len 0 k) ≡ sum_by (λ g. sum_by (λ s. one_if (is_game i j s g)) (range_with_len 0 k)) games = sum_by-swap (λ s g. one_if (is_game i j s g)) (range_with_len 0 k) games in
    let each : sum_by (λ g. sum_by (λ s. one_if (is_game i j s g)) (range_with_len 0 k)) games ≡ sum_by (λ g. one_if ((g.home.0 == i) && (g.away.0 == j) && nat_lt g.slot.0 k)) games =
    sum_by-same (λ g. sum_by (λ s. one_if (is_game i j s g)) (range_with_len 0 k)) (λ g. one_if ((g.home.0 == i) && (g.away.0 == j) && nat_lt g.slot.0 k)) (λ g. in_slots ((g.home.0 == i) && (g.away.0 == j)) g.slot.0 k) games in
    omega (arith, by_game, each)

-- games of a meeting in the season
season : (n i j : ℕ) → IsTeamCount n → games_of (counts_of (double_games n)) ((i, j) ∷ []) (range_with_len 0 (slot_count n)) ≡ sum_by (is_meeting i j) (double_games n)
season n i j size =
    games_of-counts_of i j (slot_count n) (double_games n)
    ∙ sum_by-all_same (IsGame n) (λ g. one_if ((g.home.0 == i) && (g.away.0 == j) && nat_lt g.slot.0 (slot_count n))) (is_meeting i j) (λ g fits. and_below ((g.home.0 == i) && (g.away.0 == j)) g.slot.0 (slot_count n) fits.slot) (double_games n) (IsGame-double_games n size)

and_swap : (a b : Bool) → one_if (a && b) ≡ one_if (b && a)
and_swap true true = refl
and_swap true false = refl
and_swap false true = refl
and_swap false false = refl

-- every meeting takes place once in the season
pub meeting-once : (n i j : ℕ) → IsTeamCount n → i < n → j < n → i ≢ j → games_of (counts_of (double_games n)) ((i, j) ∷ []) (range_with_len 0 (slot_count n)) ≡ 1
meeting-once n i j size first second differ =
    let returned : sum_by (λ g. is_meeting i j (return_game n g)) (single_games n) ≡ sum_by (is_meeting j i) (single_games n) =
    sum_by-same (λ g. is_meeting i j (return_game n g)) (is_meeting j i) (λ g. and_swap (g.away.0 == i) (g.home.0 == j)) (single_games n) in
    omega (arith, season n i j size, sum_by-double_games (is_meeting i j) n, returned, sum_by-add (is_meeting i j) (is_meeting j i) (single_games n), between-single_games n i j size first second differ)

-- games of a meeting in the first half
half : (n i j : ℕ) → IsTeamCount n → games_of (counts_of (double_games n)) ((i, j) ∷ []) (range_with_len 0 (n - 1)) ≡ sum_by (is_meeting i j) (single_games n)
half n i j size =
    let f : Game → ℕ = λ g. one_if ((g.home.0 == i) && (g.away.0 == j) && nat_lt g.slot.0 (n - 1)) in
    let early : sum_by f (single_games n) ≡ sum_by (is_meeting i j) (single_games n) =
    sum_by-all_same (IsEarly n) f (is_meeting i j) (λ g is. and_below ((g.home.0 == i) && (g.away.0 == j)) g.slot.0 (n - 1) is.slot) (single_games n) (IsEarly-single_games n size) in
    let late : sum_by (λ g. f (return_game n g)) (single_games n) ≡ 0 =
    sum_by-all_none (λ g. Unit {0}) (λ g. f (return_game n g)) (λ g _. and_not_below ((g.away.0 == i) && (g.home.0 == j)) (g.slot.0 + (n - 1)) (n - 1) (omega arith)) (single_games n) (λ k d _. tt) in
    omega (arith, games_of-counts_of i j (n - 1) (double_games n), sum_by-double_games f n, early, late)

-- any two teams meet once in the first half
pub half-once : (n i j : ℕ) → IsTeamCount n → i < n → j < n → i ≢ j → games_of (counts_of (double_games n)) ((i, j) ∷ (j, i) ∷ []) (range_with_len 0 (n - 1)) ≡ 1
half-once n i j size first second differ =
    omega (arith, half n i j size, half n j i size, sum_by-add (is_meeting i j) (is_meeting j i) (single_games n), between-single_games n i j size first second differ)
