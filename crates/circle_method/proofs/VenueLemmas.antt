-- Where each team plays: in each slot it has one game, at home or away by `is_at_home`.
use Rattle.std.proofs.Common.{◌≡◌, ◌≢◌, ℕ, ◌+◌, ◌-◌, ◌/◌, ◌%◌, ◌<◌, ◌≤◌, ◌&&◌, ◌==◌, inl, inr, Bool, true, false, not, cond, List, map, refl, arith, ap, ◌∙◌, sym}
use Rattle.std.proofs.lemmas.Bool.{cases_eq}
use Rattle.std.proofs.lemmas.Bool.Decides.{nat_tests}
use Rattle.std.proofs.lemmas.List.Elements.{All-cons, All-map}
use Rattle.std.proofs.lemmas.List.Sums.{sum_by-cons, sum_by-append}
use Rattle.std.specs.List.{All, range_with_len, sum_by}
use Rattle.league.specs.Counts.{counts_of, is_game, teams_of}
use Rattle.league.specs.Instance.{IsGame, IsTeamCount}
use Rattle.league.specs.Venues.{away_games, home_games}
use Rattle.league.specs.declared.game.Game.{Game}
use Rattle.league.proofs.RangeLemmas.{one_if}
use Rattle.league.proofs.SumLemmas.{sum_by-flat_map, sum_by-map, sum_by-same}
use Rattle.circle_method.specs.Circle.{game_of, last_team_game, circle_game, slot_games, single_games, return_game, double_games, steps_on, steps_back}
use Rattle.circle_method.proofs.CircleLemmas.{AreReached, are_reached, on_isnt_back, on_isnt_centre, back_isnt_centre, is_at_home, is_at_home-last, is_at_home-centre, IsPlace, place}
use Rattle.circle_method.proofs.GameLemmas.{IsEarly, IsEarly-single_games, IsGame-double_games}
use Rattle.league.proofs.OneTermLemmas.{All-range, sum_by-all_none, sum_by-all_same, sum_by-range_none, sum_by-range_one, sum_by-swap}

-- of a game's two teams, the home team or the away team
abbrev pub team_at : Bool → Game → ℕ
team_at true g = g.home.0
team_at false g = g.away.0

-- whether a team that is at home, or isn't, is the one that is looked for
abbrev pub seen : Bool → Bool → Bool
seen true b = b
seen false b = not b

team_at-game_of : (side b : Bool) (i j s : ℕ) → team_at side (game_of b i j s) ≡ cond (seen side b) i j
team_at-game_of true true i j s = refl
team_at-game_of true false i j s = refl
team_at-game_of false true i j s = refl
team_at-game_of false false i j s = refl

seen-not : (side b : Bool) → seen side (not b) ≡ not (seen side b)
seen-not true true = refl
seen-not true false = refl
seen-not false true = refl
seen-not false false = refl

test_none : (c : Bool) (x y i : ℕ) → x ≢ i → y ≢ i → one_if (cond c x y == i) ≡ 0
test_none c x y i first second = grind (arith, nat_tests)

test_first : (c : Bool) (x y i : ℕ) → x ≡ i → y ≢ i → one_if (cond c x y == i) ≡ one_if c
test_first c x y i first second = grind (arith, nat_tests)

test_second : (c : Bool) (x y i : ℕ) → x ≢ i → y ≡ i → one_if (cond c x y == i) ≡ one_if (not c)
test_second c x y i first second = grind (arith, nat_tests)

-- a game of two other teams, of team i and another one, and of another one and team i
team_at-none : (side b : Bool) (x y s i : ℕ) → x ≢ i → y ≢ i → one_if (team_at side (game_of b x y s) == i) ≡ 0
team_at-none side b x y s i first second = ap (λ (t : ℕ). one_if (t == i)) (team_at-game_of side b x y s) ∙ test_none (seen side b) x y i first second

team_at-first : (side b : Bool) (x y s i : ℕ) → x ≡ i → y ≢ i → one_if (team_at side (game_of b x y s) == i) ≡ one_if (seen side b)
team_at-first side b x y s i first second = ap (λ (t : ℕ). one_if (t == i)) (team_at-game_of side b x y s) ∙ test_first (seen side b) x y i first second

team_at-second : (side b : Bool) (x y s i : ℕ) → x ≢ i → y ≡ i → one_if (team_at side (game_of b x y s) == i) ≡ one_if (seen side (not b))
team_at-second side b x y s i first second =
    ap (λ (t : ℕ). one_if (t == i)) (team_at-game_of side b x y s) ∙ test_second (seen side b) x y i first second ∙ ap one_if (sym (seen-not side b))

-- a sum over a slot's games
pub sum_by-slot_games : (f : Game → ℕ) (n s : ℕ) → sum_by f (slot_games n s) ≡ f (last_team_game n s) + sum_by (λ k. f (circle_game n s k)) (range_with_len 1 (n / 2 - 1))
sum_by-slot_games f n s = omega (arith, sum_by-cons f (last_team_game n s) (map (circle_game n s) (range_with_len 1 (n / 2 - 1))), sum_by-map f (circle_game n s) (range_with_len 1 (n / 2 - 1)))

-- a sum over the circle's games of a slot with one term
pub circle_one : (f : Game → ℕ) (n s k : ℕ) → IsTeamCount n → 0 < k → k + k < n - 1 → ((x : ℕ) → 0 < x → x + x < n - 1 → x ≢ k → f (circle_game n s x) ≡ 0) → sum_by (λ x. f (circle_game n s x)) (range_with_len 1 (n / 2 - 1)) ≡ f (circle_game n s k)
circle_one f n s k size some half none =
    let even : n % 2 ≡ 0 = size.even in
    sum_by-range_one (λ x. f (circle_game n s x)) 1 (n / 2 - 1) k (omega arith) (omega arith) (λ x low high other. none x (omega arith) (omega arith) other)

-- a sum over the circle's games of a slot without a term
pub circle_none : (f : Game → ℕ) (n s : ℕ) → IsTeamCount n → ((x : ℕ) → 0 < x → x + x < n - 1 → f (circle_game n s x) ≡ 0) → sum_by (λ x. f (circle_game n s x)) (range_with_len 1 (n / 2 - 1)) ≡ 0
circle_none f n s size none =
    let even : n % 2 ≡ 0 = size.even in
    sum_by-range_none (λ x. f (circle_game n s x)) 1 (n / 2 - 1) (λ x low high. none x (omega arith) (omega arith))

not_zero : (x : ℕ) → x < 2 → not (x == 0) ≡ (x == 1)
not_zero x below = grind (arith, nat_tests)

odd-not_even : (x : ℕ) → not (x % 2 == 0) ≡ (x % 2 == 1)
odd-not_even x =
    let below : x % 2 < 2 = omega arith in
    not_zero (x % 2) below

-- how often team i is the home team, or the away team, of a slot's games
abbrev at_side : Bool → ℕ → ℕ → ℕ → ℕ
at_side side n i s = sum_by (λ g. one_if (team_at side g == i)) (slot_games n s)

venue-last : (side : Bool) (n i s : ℕ) → IsTeamCount n → s < n - 1 → i ≡ n - 1 → at_side side n i s ≡ one_if (seen side (is_at_home (n - 1) i s))
venue-last side n i s size slot last =
    let f : Game → ℕ = λ g. one_if (team_at side g == i) in
    let first : f (last_team_game n s) ≡ one_if (seen side (s % 2 == 0)) = team_at-first side (s % 2 == 0) (n - 1) s s i (sym last) (λ e. omega arith) in
    let others : sum_by (λ x. f (circle_game n s x)) (range_with_len 1 (n / 2 - 1)) ≡ 0 =
    circle_none f n s size (λ x some half.
    let r : AreReached (n - 1) s x (steps_on (n - 1) s x) (steps_back (n - 1) s x) = are_reached (n - 1) s x slot (omega arith) in
    team_at-none side (x % 2 == 1) (steps_on (n - 1) s x) (steps_back (n - 1) s x) s i (λ e. omega (arith, r.on_below)) (λ e. omega (arith, r.back_below))) in
    let home : is_at_home (n - 1) i s ≡ (s % 2 == 0) = ap (λ (t : ℕ). is_at_home (n - 1) t s) last ∙ is_at_home-last (n - 1) s in
    let same : one_if (seen side (is_at_home (n - 1) i s)) ≡ one_if (seen side (s % 2 == 0)) = ap (λ (b : Bool). one_if (seen side b)) home in
    omega (arith, sum_by-slot_games f n s, first, others, same)

venue-centre : (side : Bool) (n i s : ℕ) → IsTeamCount n → s < n - 1 → i ≡ s → at_side side n i s ≡ one_if (seen side (is_at_home (n - 1) i s))
venue-centre side n i s size slot centre =
    let f : Game → ℕ = λ g. one_if (team_at side g == i) in
    let first : f (last_team_game n s) ≡ one_if (seen side (not (s % 2 == 0))) = team_at-second side (s % 2 == 0) (n - 1) s s i (λ e. omega arith) (sym centre) in
    let others : sum_by (λ x. f (circle_game n s x)) (range_with_len 1 (n / 2 - 1)) ≡ 0 =
    circle_none f n s size (λ x some half.
    team_at-none side (x % 2 == 1) (steps_on (n - 1) s x) (steps_back (n - 1) s x) s i (λ e. on_isnt_centre (n - 1) s x slot some (omega arith) (e ∙ centre)) (λ e. back_isnt_centre (n - 1) s x slot some (omega arith) (e ∙ centre))) in
    let home : is_at_home (n - 1) i s ≡ (s % 2 == 1) = ap (λ (t : ℕ). is_at_home (n - 1) t s) centre ∙ is_at_home-centre (n - 1) s slot in
    let same : one_if (seen side (is_at_home (n - 1) i s)) ≡ one_if (seen side (not (s % 2 == 0))) = ap (λ (b : Bool). one_if (seen side b)) (home ∙ sym (odd-not_even s)) in
    omega (arith, sum_by-slot_games f n s, first, others, same)

-- what the place of a team tells of the game there
at_place : (side : Bool) (n i s k : ℕ) (b : Bool) → s < n - 1 → IsPlace (n - 1) s i k b → one_if (team_at side (circle_game n s k) == i) ≡ one_if (seen side b)
at_place side n i s k b slot at =
    let on : ℕ = steps_on (n - 1) s k in
    let back : ℕ = steps_back (n - 1) s k in
    let differ : steps_on (n - 1) s k ≢ steps_back (n - 1) s k = on_isnt_back (n - 1) s k slot at.some at.half in
    elim at.here as (λ _. one_if (team_at side (circle_game n s k) == i) ≡ one_if (seen side b)) [
      | inl h ↦ team_at-first side (k % 2 == 1) (steps_on (n - 1) s k) (steps_back (n - 1) s k) s i h.0 (λ e. differ (h.0 ∙ sym e)) ∙ ap (λ (c : Bool). one_if (seen side c)) (sym h.1)
      | inr h ↦ team_at-second side (k % 2 == 1) (steps_on (n - 1) s k) (steps_back (n - 1) s k) s i (λ e. differ (e ∙ sym h.0)) h.0 ∙ ap (λ (c : Bool). one_if (seen side c)) (sym h.1)
    ]

venue-circle : (side : Bool) (n i s : ℕ) → IsTeamCount n → s < n - 1 → i < n - 1 → i ≢ s → at_side side n i s ≡ one_if (seen side (is_at_home (n - 1) i s))
venue-circle side n i s size slot team other =
    let f : Game → ℕ = λ g. one_if (team_at side g == i) in
    let odd : (n - 1) % 2 ≡ 1 = (let even : n % 2 ≡ 0 = size.even in omega arith) in
    let found : (k : ℕ) × IsPlace (n - 1) s i k (is_at_home (n - 1) i s) = place (n - 1) s i odd slot team other in
    let at : IsPlace (n - 1) s i found.0 (is_at_home (n - 1) i s) = found.1 in
    let first : f (last_team_game n s) ≡ 0 = team_at-none side (s % 2 == 0) (n - 1) s s i (λ e. omega arith) (λ e. other (sym e)) in
    let others : sum_by (λ x. f (circle_game n s x)) (range_with_len 1 (n / 2 - 1)) ≡ f (circle_game n s found.0) =
    circle_one f n s found.0 size at.some at.half (λ x some half far.
    let none : (steps_on (n - 1) s x ≢ i) × (steps_back (n - 1) s x ≢ i) = at.alone x some half far in
    team_at-none side (x % 2 == 1) (steps_on (n - 1) s x) (steps_back (n - 1) s x) s i none.0 none.1) in
    let here : f (circle_game n s found.0) ≡ one_if (seen side (is_at_home (n - 1) i s)) = at_place side n i s found.0 (is_at_home (n - 1) i s) slot at in
    sum_by-slot_games f n s ∙ ap (λ (x : ℕ). x + sum_by (λ x. f (circle_game n s x)) (range_with_len 1 (n / 2 - 1))) first ∙ (let e : 0 + sum_by (λ x. f (circle_game n s x)) (range_with_len 1 (n / 2 - 1)) ≡ f (circle_game n s found.0) = omega (arith, others) in e) ∙ here

-- each team has one game in each slot of the first half, at home or away by `is_at_home`
pub venue : (side : Bool) (n i s : ℕ) → IsTeamCount n → i < n → s < n - 1 → at_side side n i s ≡ one_if (seen side (is_at_home (n - 1) i s))
venue side n i s size team slot =
    elim (cases_eq i (n - 1)) as (λ _. at_side side n i s ≡ one_if (seen side (is_at_home (n - 1) i s))) [
      | inl last ↦ venue-last side n i s size slot last
      | inr inside ↦ elim (cases_eq i s) as (λ _. at_side side n i s ≡ one_if (seen side (is_at_home (n - 1) i s))) [
        | inl centre ↦ venue-centre side n i s size slot centre
        | inr other ↦ venue-circle side n i s size slot (omega arith) other
      ]
    ]

-- the games of a slot are in it
slot-game_of : (b : Bool) (i j s : ℕ) → (game_of b i j s).slot.0 ≡ s
slot-game_of true i j s = refl
slot-game_of false i j s = refl

slot-slot_games : (n s : ℕ) → All (λ g. g.slot.0 ≡ s) (slot_games n s)
slot-slot_games n s =
    All-cons (λ g. g.slot.0 ≡ s) (last_team_game n s) (map (circle_game n s) (range_with_len 1 (n / 2 - 1))) (slot-game_of (s % 2 == 0) (n - 1) s s)
    (All-map (λ g. g.slot.0 ≡ s) (circle_game n s) (range_with_len 1 (n / 2 - 1)) (All-range (λ k. (circle_game n s k).slot.0 ≡ s) 1 (n / 2 - 1) (λ k low high. slot-game_of (k % 2 == 1) (steps_on (n - 1) s k) (steps_back (n - 1) s k) s)))

in_slot : (b : Bool) (x s : ℕ) → x ≡ s → one_if (b && (x == s)) ≡ one_if b
in_slot b x s same = grind (arith, nat_tests)

pub not_in_slot : (b : Bool) (x s : ℕ) → x ≢ s → one_if (b && (x == s)) ≡ 0
not_in_slot b x s other = grind (arith, nat_tests)

-- games of the single round robin in a slot
single-in_slot : (p : Game → Bool) (n s : ℕ) → s < n - 1 → sum_by (λ g. one_if (p g && (g.slot.0 == s))) (single_games n) ≡ sum_by (λ g. one_if (p g)) (slot_games n s)
single-in_slot p n s early =
    let f : Game → ℕ = λ g. one_if (p g && (g.slot.0 == s)) in
    sum_by-flat_map f (slot_games n) (range_with_len 0 (n - 1))
    ∙ sum_by-range_one (λ t. sum_by f (slot_games n t)) 0 (n - 1) s (omega arith) (omega arith) (λ t low high other. sum_by-all_none (λ g. g.slot.0 ≡ t) f (λ g e. not_in_slot (p g) g.slot.0 s (λ same. other (sym e ∙ same))) (slot_games n t) (slot-slot_games n t))
    ∙ sum_by-all_same (λ g. g.slot.0 ≡ s) f (λ g. one_if (p g)) (λ g e. in_slot (p g) g.slot.0 s e) (slot_games n s) (slot-slot_games n s)

-- games of the single round robin in a slot behind its last one
single-in_later : (p : Game → Bool) (n s : ℕ) → IsTeamCount n → n - 1 ≤ s → sum_by (λ g. one_if (p g && (g.slot.0 == s))) (single_games n) ≡ 0
single-in_later p n s size late =
    sum_by-all_none (IsEarly n) (λ g. one_if (p g && (g.slot.0 == s))) (λ g early. not_in_slot (p g) g.slot.0 s (λ same. let below : g.slot.0 < n - 1 = early.slot in omega arith)) (single_games n) (IsEarly-single_games n size)

-- a sum over both halves
pub sum_by-double_games : (f : Game → ℕ) (n : ℕ) → sum_by f (double_games n) ≡ sum_by f (single_games n) + sum_by (λ g. f (return_game n g)) (single_games n)
sum_by-double_games f n = omega (arith, sum_by-append f (single_games n) (map (return_game n) (single_games n)), sum_by-map f (return_game n) (single_games n))

-- games of the double round robin in a slot of the first half
double-in_first : (p : Game → Bool) (n s : ℕ) → s < n - 1 → sum_by (λ g. one_if (p g && (g.slot.0 == s))) (double_games n) ≡ sum_by (λ g. one_if (p g)) (slot_games n s)
double-in_first p n s early =
    let f : Game → ℕ = λ g. one_if (p g && (g.slot.0 == s)) in
    let later : sum_by (λ g. f (return_game n g)) (single_games n) ≡ 0 =
    sum_by-all_none (λ g. Unit {0}) (λ g. f (return_game n g)) (λ g _. not_in_slot (p (return_game n g)) (g.slot.0 + (n - 1)) s (λ e. omega arith)) (single_games n) (λ k d _. tt) in
    omega (arith, sum_by-double_games f n, single-in_slot p n s early, later)

same_shifted : (b : Bool) (x s m : ℕ) → one_if (b && (x + m == s + m)) ≡ one_if (b && (x == s))
same_shifted b x s m = grind (arith, nat_tests)

-- games of the double round robin in a slot of the second half
double-in_second : (p : Game → Bool) (n s : ℕ) → IsTeamCount n → s < n - 1 → sum_by (λ g. one_if (p g && (g.slot.0 == s + (n - 1)))) (double_games n) ≡ sum_by (λ g. one_if (p (return_game n g))) (slot_games n s)
double-in_second p n s size early =
    let f : Game → ℕ = λ g. one_if (p g && (g.slot.0 == s + (n - 1))) in
    let later : sum_by (λ g. f (return_game n g)) (single_games n) ≡ sum_by (λ g. one_if (p (return_game n g) && (g.slot.0 == s))) (single_games n) =
    sum_by-same (λ g. f (return_game n g)) (λ g. one_if (p (return_game n g) && (g.slot.0 == s))) (λ g. same_shifted (p (return_game n g)) g.slot.0 s (n - 1)) (single_games n) in
    omega (arith, sum_by-double_games f n, single-in_later p n (s + (n - 1)) size (omega arith), later, single-in_slot (λ g. p (return_game n g)) n s early)

one_team : (a b : Bool) (x : ℕ) → one_if (a && (x == x) && b) ≡ one_if (a && b)
one_team a b x = grind (arith, nat_tests)

other_team : (a b : Bool) (x y : ℕ) → y ≢ x → one_if (a && (x == y) && b) ≡ 0
other_team a b x y other = grind (arith, nat_tests)

one_team-first : (b c : Bool) (x : ℕ) → one_if ((x == x) && b && c) ≡ one_if (b && c)
one_team-first b c x = grind (arith, nat_tests)

other_team-first : (b c : Bool) (x y : ℕ) → y ≢ x → one_if ((x == y) && b && c) ≡ 0
other_team-first b c x y other = grind (arith, nat_tests)

-- home games of a team in a slot, game by game
home_games-counts_of : (n i s : ℕ) (games : List Game) → All (IsGame n) games → home_games n (counts_of games) i s ≡ sum_by (λ g. one_if ((g.home.0 == i) && (g.slot.0 == s))) games
home_games-counts_of n i s games fit =
    sum_by-swap (λ j g. one_if (is_game i j s g)) (teams_of n) games
    ∙ sum_by-all_same (IsGame n) (λ g. sum_by (λ j. one_if (is_game i j s g)) (teams_of n)) (λ g. one_if ((g.home.0 == i) && (g.slot.0 == s)))
    (λ g fits. sum_by-range_one (λ j. one_if (is_game i j s g)) 0 n g.away.0 (omega arith) (omega (arith, fits.away)) (λ j low high other. other_team (g.home.0 == i) (g.slot.0 == s) g.away.0 j other) ∙ one_team (g.home.0 == i) (g.slot.0 == s) g.away.0)
    games fit

-- away games of a team in a slot, game by game
away_games-counts_of : (n i s : ℕ) (games : List Game) → All (IsGame n) games → away_games n (counts_of games) i s ≡ sum_by (λ g. one_if ((g.away.0 == i) && (g.slot.0 == s))) games
away_games-counts_of n i s games fit =
    sum_by-swap (λ j g. one_if (is_game j i s g)) (teams_of n) games
    ∙ sum_by-all_same (IsGame n) (λ g. sum_by (λ j. one_if (is_game j i s g)) (teams_of n)) (λ g. one_if ((g.away.0 == i) && (g.slot.0 == s)))
    (λ g fits. sum_by-range_one (λ j. one_if (is_game j i s g)) 0 n g.home.0 (omega arith) (omega (arith, fits.home)) (λ j low high other. other_team-first (g.away.0 == i) (g.slot.0 == s) g.home.0 j other) ∙ one_team-first (g.away.0 == i) (g.slot.0 == s) g.home.0)
    games fit

-- where a team plays, by the counts of the double round robin
pub home_games-first : (n i s : ℕ) → IsTeamCount n → i < n → s < n - 1 → home_games n (counts_of (double_games n)) i s ≡ one_if (is_at_home (n - 1) i s)
home_games-first n i s size team slot =
    home_games-counts_of n i s (double_games n) (IsGame-double_games n size) ∙ double-in_first (λ g. g.home.0 == i) n s slot ∙ venue true n i s size team slot

pub away_games-first : (n i s : ℕ) → IsTeamCount n → i < n → s < n - 1 → away_games n (counts_of (double_games n)) i s ≡ one_if (not (is_at_home (n - 1) i s))
away_games-first n i s size team slot =
    away_games-counts_of n i s (double_games n) (IsGame-double_games n size) ∙ double-in_first (λ g. g.away.0 == i) n s slot ∙ venue false n i s size team slot

pub home_games-second : (n i s : ℕ) → IsTeamCount n → i < n → s < n - 1 → home_games n (counts_of (double_games n)) i (s + (n - 1)) ≡ one_if (not (is_at_home (n - 1) i s))
home_games-second n i s size team slot =
    home_games-counts_of n i (s + (n - 1)) (double_games n) (IsGame-double_games n size) ∙ double-in_second (λ g. g.home.0 == i) n s size slot ∙ venue false n i s size team slot

pub away_games-second : (n i s : ℕ) → IsTeamCount n → i < n → s < n - 1 → away_games n (counts_of (double_games n)) i (s + (n - 1)) ≡ one_if (is_at_home (n - 1) i s)
away_games-second n i s size team slot =
    away_games-counts_of n i (s + (n - 1)) (double_games n) (IsGame-double_games n size) ∙ double-in_second (λ g. g.away.0 == i) n s size slot ∙ venue true n i s size team slot
