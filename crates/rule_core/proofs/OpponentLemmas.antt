-- What a team's games against some others add up to, slot by slot and opponent by opponent, and which games don't
-- change them.
use Rattle.std.proofs.Common.{◌≡◌, ◌≢◌, ℕ, ◌+◌, zero, suc, Bool, true, false, not, ◌==◌, if◌then◌else◌, List, [], ◌∷◌, map, get_or, cond, refl, arith, ap, sym, ◌∙◌, zero-add}
use Rattle.std.proofs.lemmas.Bool.Decides.{nat_tests}
use Rattle.std.proofs.lemmas.List.Sums.{sum_by-append, sum_by-cons}
use Rattle.std.specs.List.{All, range_with_len, sum_by}
use Rattle.league.specs.Capacity.{meetings_with}
use Rattle.league.specs.Counts.{Counts, one_more}
use Rattle.league.specs.Meetings.{games_of, others}
use Rattle.league.specs.Venues.{on_side}
use Rattle.league.specs.declared.game.Game.{Game}
use Rattle.league.specs.declared.class.Side.{Side}
use Rattle.league.specs.declared.class.Side.TheVariants.{H, A, Both}
use Rattle.league.proofs.SumLemmas.{sum_by-add, sum_by-same, sum_by-same_in}
use Rattle.rule_core.proofs.TeamPlaceLemmas.{at_home, games_of-one_slot, is_away}

-- a sum of zeros
sum_by-none : (xs : List ℕ) → sum_by (λ x. 0) xs ≡ 0
sum_by-none [] = refl
sum_by-none (x ∷ xs) = omega (arith, sum_by-cons (λ y. 0) x xs, sum_by-none xs)

-- with one meeting more
games_of-cons : (m : Counts) (p : ℕ × ℕ) (ps : List (ℕ × ℕ)) (s : ℕ) → games_of m (p ∷ ps) (s ∷ []) ≡ m p.0 p.1 s + games_of m ps (s ∷ [])
games_of-cons m p ps s = omega (arith, games_of-one_slot m (p ∷ ps) s, games_of-one_slot m ps s, sum_by-cons (λ q. m q.0 q.1 s) p ps)

-- the games of some meetings, counted slot by slot
pub games_of-by_slot : (m : Counts) (meetings : List (ℕ × ℕ)) (slots : List ℕ) → games_of m meetings slots ≡ sum_by (λ s. games_of m meetings (s ∷ [])) slots
games_of-by_slot m [] slots = sym (sum_by-none slots)
games_of-by_slot m (p ∷ ps) slots =
    omega (
      arith,
      sum_by-cons (λ q. sum_by (λ s. m q.0 q.1 s) slots) p ps,
      games_of-by_slot m ps slots,
      sum_by-add (λ s. m p.0 p.1 s) (λ s. games_of m ps (s ∷ [])) slots,
      sum_by-same (λ s. games_of m (p ∷ ps) (s ∷ [])) (λ s. m p.0 p.1 s + games_of m ps (s ∷ [])) (λ s. games_of-cons m p ps s) slots,
    )

-- the games of a team with another on a side, in a slot
abbrev pub between : Counts → Side → ℕ → ℕ → ℕ → ℕ
between m side i s j = on_side side (m i j s) (m j i s)

-- the games of a team with another on a side, in a slot, and none with itself
abbrev pub against : Counts → Side → ℕ → ℕ → ℕ → ℕ
against m side i s j = if not (j == i) then between m side i s j else 0

-- two numbers under one test
cond-add : (b : Bool) (x y : ℕ) → cond b x 0 + cond b y 0 ≡ cond b (x + y) 0
cond-add true x y = refl
cond-add false x y = refl

-- the games of a team in a slot, counted opponent by opponent
pub games_of-by_opponent : (m : Counts) (side : Side) (i : ℕ) (teams : List ℕ) (s : ℕ) → games_of m (meetings_with side i teams) (s ∷ []) ≡ sum_by (against m side i s) teams
games_of-by_opponent m H i teams s = at_home m i teams s
games_of-by_opponent m A i teams s = is_away m i teams s
games_of-by_opponent m Both i teams s =
    omega (
      arith,
      sum_by-append (λ (p : ℕ × ℕ). sum_by (λ t. m p.0 p.1 t) (s ∷ [])) (map (λ j. (i, j)) (others i teams)) (map (λ j. (j, i)) (others i teams)),
      at_home m i teams s,
      is_away m i teams s,
      sum_by-add (against m H i s) (against m A i s) teams,
      sum_by-same (λ j. against m H i s j + against m A i s j) (against m Both i s) (λ j. cond-add (not (j == i)) (m i j s) (m j i s)) teams,
    )

-- where two tables have the same games of a team with each opponent in each slot, they have the same in all
pub games_of-same : (m1 m2 : Counts) (side : Side) (i : ℕ) (teams slots : List ℕ) → All (λ s. All (λ j. between m1 side i s j ≡ between m2 side i s j) teams) slots → games_of m1 (meetings_with side i teams) slots ≡ games_of m2 (meetings_with side i teams) slots
games_of-same m1 m2 side i teams slots same =
    games_of-by_slot m1 (meetings_with side i teams) slots
    ∙ sum_by-same_in (λ s. games_of m1 (meetings_with side i teams) (s ∷ [])) (λ s. games_of m2 (meetings_with side i teams) (s ∷ [])) slots
    (λ k d lt.
    let s : ℕ = get_or slots k d in
    games_of-by_opponent m1 side i teams s
    ∙ sum_by-same_in (against m1 side i s) (against m2 side i s) teams (λ l e within. ap (λ (x : ℕ). cond (not (get_or teams l e == i)) x 0) (same k d lt l e within))
    ∙ sym (games_of-by_opponent m2 side i teams s))
    ∙ sym (games_of-by_slot m2 (meetings_with side i teams) slots)

-- a game of which the home team, the away team or the slot is another
pub one_more-other_home : (m : Counts) (g : Game) (i j s : ℕ) → i ≢ g.home.0 → one_more m g i j s ≡ m i j s
one_more-other_home m g i j s differ = grind (arith, nat_tests)

pub one_more-other_away : (m : Counts) (g : Game) (i j s : ℕ) → j ≢ g.away.0 → one_more m g i j s ≡ m i j s
one_more-other_away m g i j s differ = grind (arith, nat_tests)

pub one_more-other_slot : (m : Counts) (g : Game) (i j s : ℕ) → s ≢ g.slot.0 → one_more m g i j s ≡ m i j s
one_more-other_slot m g i j s differ = grind (arith, nat_tests)

-- in another slot, each team has as many games with each other
pub between-elsewhere : (m : Counts) (side : Side) (g : Game) (i s j : ℕ) → s ≢ g.slot.0 → between (one_more m g) side i s j ≡ between m side i s j
between-elsewhere m H g i s j differ = one_more-other_slot m g i j s differ
between-elsewhere m A g i s j differ = one_more-other_slot m g j i s differ
between-elsewhere m Both g i s j differ = omega (arith, one_more-other_slot m g i j s differ, one_more-other_slot m g j i s differ)

-- a sum over a range, cut in two
pub sum_by-range_append : (f : ℕ → ℕ) (a k l : ℕ) → sum_by f (range_with_len a (k + l)) ≡ sum_by f (range_with_len a k) + sum_by f (range_with_len (a + k) l)
sum_by-range_append f a zero l =
    let from_a : a + 0 ≡ a = omega arith in
    omega (arith, ap (λ (x : ℕ). sum_by f (range_with_len a x)) (zero-add l), ap (λ (x : ℕ). sum_by f (range_with_len x l)) from_a)
sum_by-range_append f a (suc k) l =
    let longer : suc k + l ≡ suc (k + l) = omega arith in
    let further : a + 1 + k ≡ a + suc k = omega arith in
    omega (
      arith,
      ap (λ (x : ℕ). sum_by f (range_with_len a x)) longer,
      sum_by-cons f a (range_with_len (a + 1) (k + l)),
      sum_by-cons f a (range_with_len (a + 1) k),
      sum_by-range_append f (a + 1) k l,
      ap (λ (x : ℕ). sum_by f (range_with_len x l)) further,
    )

-- the games before a window's end are those before its first slot and those in it
pub games_of-window : (m : Counts) (meetings : List (ℕ × ℕ)) (first intp : ℕ) → games_of m meetings (range_with_len 0 (first + intp)) ≡ games_of m meetings (range_with_len 0 first) + games_of m meetings (range_with_len first intp)
games_of-window m meetings first intp =
    let f : ℕ → ℕ = λ s. games_of m meetings (s ∷ []) in
    omega (
      arith,
      games_of-by_slot m meetings (range_with_len 0 (first + intp)),
      games_of-by_slot m meetings (range_with_len 0 first),
      games_of-by_slot m meetings (range_with_len first intp),
      sum_by-range_append f 0 first intp,
      ap (λ (x : ℕ). sum_by f (range_with_len x intp)) (zero-add first),
    )
