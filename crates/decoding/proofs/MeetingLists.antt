-- Lists of meetings: they fit, and the literals of their games are true as often as the games are played.
use Rattle.std.proofs.Common.{◌≡◌, ◌≢◌, ℕ, ◌+◌, ◌-◌, ◌<◌, Bool, true, not, ◌&&◌, ◌==◌, cond, nat_lt, List, [], ◌∷◌}
use Rattle.std.proofs.Common.{◌++◌, map, refl, arith, ◌∙◌}
use Rattle.std.proofs.lemmas.Bool.{and_from, and_parts, eqb-false, lt-ltb, ltb-true, not-true}
use Rattle.std.proofs.lemmas.Bool.Decides.{nat_tests}
use Rattle.std.proofs.lemmas.List.Folds.{list_all-append, list_all-map}
use Rattle.std.proofs.lemmas.List.Sums.{sum_by-append}
use Rattle.std.specs.List.{filter, list_all, range_with_len, sum_by}
use Rattle.league.specs.Capacity.{meetings_with, windows_of}
use Rattle.league.specs.Counts.{Counts, slot_count, teams_of}
use Rattle.league.specs.Instance.{is_meeting}
use Rattle.league.specs.Meetings.{games_of, meetings_of, others, pairs_of}
use Rattle.league.specs.declared.class.Side.{Side}
use Rattle.league.specs.declared.class.Side.TheVariants.{H, A, Both}
use Rattle.league.proofs.SumLemmas.{sum_by-add, sum_by-filter, sum_by-flat_map, sum_by-map, sum_by-same}
use Rattle.rows.specs.Literals.{Literal, yes}
use Rattle.rows.specs.Rows.{is_true}
use Rattle.rows.specs.Tests.{true_count}
use Rattle.rows.proofs.ListLemmas.{list_all-flat_map, list_all-map-filter, list_all-range, list_all-weaker}
use Rattle.rows.proofs.ListLemmas.{sum_by-agree}
use Rattle.encoding.specs.Lists.{games_in, meetings_in_order}
use Rattle.encoding.specs.Variables.{x_var}
use Rattle.decoding.specs.Below.{all_below}
use Rattle.decoding.specs.Mirrors.{MirrorsGames}

-- two different teams
pub meeting_parts : (n : ℕ) (p : ℕ × ℕ) → is_meeting n p ≡ true → (p.0 < n) × (p.1 < n) × (p.0 ≢ p.1)
meeting_parts n p fits =
    let both = and_parts (nat_lt p.0 n && nat_lt p.1 n) (not (p.0 == p.1)) fits in
    let teams = and_parts (nat_lt p.0 n) (nat_lt p.1 n) both.0 in
    (ltb-true p.0 n teams.0, ltb-true p.1 n teams.1, eqb-false p.0 p.1 (not-true (p.0 == p.1) both.1))

home_meeting : (n i j : ℕ) → i < n → nat_lt j n ≡ true → not (j == i) ≡ true → is_meeting n (i, j) ≡ true
home_meeting n i j team other differ = grind (arith, nat_tests)

away_meeting : (n i j : ℕ) → i < n → nat_lt j n ≡ true → not (j == i) ≡ true → is_meeting n (j, i) ≡ true
away_meeting n i j team other differ = grind (arith, nat_tests)

before_meeting : (n i j : ℕ) → i < n → nat_lt j n ≡ true → nat_lt j i ≡ true → is_meeting n (j, i) ≡ true
before_meeting n i j team other differ = grind (arith, nat_tests)

after_meeting : (n i j : ℕ) → i < n → nat_lt j n ≡ true → nat_lt i j ≡ true → is_meeting n (j, i) ≡ true
after_meeting n i j team other differ = grind (arith, nat_tests)

module _ (n i : ℕ) (team : i < n) (teams : List ℕ) (fit : all_below n teams ≡ true) where
  home_meetings-fit : list_all (is_meeting n) (meetings_with H i teams) ≡ true
  home_meetings-fit =
      list_all-map-filter (is_meeting n) (λ j. (i, j)) (λ j. not (j == i)) (λ j. nat_lt j n)
      (λ j. home_meeting n i j team) teams fit

  away_meetings-fit : list_all (is_meeting n) (meetings_with A i teams) ≡ true
  away_meetings-fit =
      list_all-map-filter (is_meeting n) (λ j. (j, i)) (λ j. not (j == i)) (λ j. nat_lt j n)
      (λ j. away_meeting n i j team) teams fit

  -- the meetings of a team with some teams
  pub meetings_with-fit : (side : Side) → list_all (is_meeting n) (meetings_with side i teams) ≡ true
  meetings_with-fit H = home_meetings-fit
  meetings_with-fit A = away_meetings-fit
  meetings_with-fit Both =
      list_all-append (is_meeting n) (meetings_with H i teams) (meetings_with A i teams)
      ∙ and_from _ _ home_meetings-fit away_meetings-fit

  visits-fit : (q : ℕ → Bool) → ((j : ℕ) → nat_lt j n ≡ true → q j ≡ true → is_meeting n (j, i) ≡ true)
      → list_all (is_meeting n) (map (λ j. (j, i)) (filter q teams)) ≡ true
  visits-fit q meet = list_all-map-filter (is_meeting n) (λ j. (j, i)) q (λ j. nat_lt j n) meet teams fit

  pub meetings_in_order-fit : (side : Side) → list_all (is_meeting n) (meetings_in_order side i teams) ≡ true
  meetings_in_order-fit H = home_meetings-fit
  meetings_in_order-fit A = away_meetings-fit
  meetings_in_order-fit Both =
      let earlier : List (ℕ × ℕ) = map (λ j. (j, i)) (filter (λ j. nat_lt j i) teams) in
      let later : List (ℕ × ℕ) = map (λ j. (j, i)) (filter (λ j. nat_lt i j) teams) in
      list_all-append (is_meeting n) (earlier ++ meetings_with H i teams) later
      ∙ and_from _ _
      (list_all-append (is_meeting n) earlier (meetings_with H i teams)
      ∙ and_from _ _ (visits-fit (λ j. nat_lt j i) (λ j. before_meeting n i j team)) home_meetings-fit)
      (visits-fit (λ j. nat_lt i j) (λ j. after_meeting n i j team))

-- a league's teams, and all its meetings
pub teams_of-fit : (n : ℕ) → all_below n (teams_of n) ≡ true
teams_of-fit n = list_all-range (λ i. nat_lt i n) 0 n (λ i from within. lt-ltb i n (omega arith))

pub meetings_of-fit : (n : ℕ) → list_all (is_meeting n) (meetings_of n) ≡ true
meetings_of-fit n =
    list_all-flat_map (is_meeting n) (λ i. map (λ j. (i, j)) (others i (teams_of n))) (teams_of n)
    ∙ list_all-weaker (λ i. nat_lt i n) (λ i. list_all (is_meeting n) (meetings_with H i (teams_of n)))
    (λ i team. meetings_with-fit n i (ltb-true i n team) (teams_of n) (teams_of-fit n) H) (teams_of n)
    (teams_of-fit n)

-- the windows of a season
pub windows_of-fit : (n width : ℕ) → list_all (all_below (slot_count n)) (windows_of n width) ≡ true
windows_of-fit n width =
    list_all-map (all_below (slot_count n)) (λ first. range_with_len first width)
    (range_with_len 0 (slot_count n + 1 - width))
    ∙ list_all-range (λ first. all_below (slot_count n) (range_with_len first width)) 0 (slot_count n + 1 - width)
    (λ first from within.
    list_all-range (λ s. nat_lt s (slot_count n)) first width
    (λ s after before. lt-ltb s (slot_count n) (omega arith)))

-- pairs of teams
pub pairs_of-fit : (n : ℕ) (teams : List ℕ) → all_below n teams ≡ true
    → list_all (λ p. nat_lt p.0 n && nat_lt p.1 n) (pairs_of teams) ≡ true
pairs_of-fit n [] fit = refl
pairs_of-fit n (i ∷ teams) fit =
    let both = and_parts (nat_lt i n) (all_below n teams) fit in
    let teams_fit : ℕ × ℕ → Bool = λ p. nat_lt p.0 n && nat_lt p.1 n in
    let pair : ℕ → ℕ × ℕ = λ j. (i, j) in
    list_all-append teams_fit (map pair teams) (pairs_of teams)
    ∙ and_from _ _
    (list_all-map teams_fit pair teams
    ∙ list_all-weaker (λ j. nat_lt j n) (λ j. nat_lt i n && nat_lt j n)
    (λ j other. and_from (nat_lt i n) (nat_lt j n) both.0 other) teams both.1)
    (pairs_of-fit n teams both.1)

-- the literals of some meetings in some slots are true as often as their games are played
pub games_listed : (n : ℕ) (m : Counts) (values : ℕ → Bool) (meetings : List (ℕ × ℕ)) (slots : List ℕ)
    → MirrorsGames n m values → list_all (is_meeting n) meetings ≡ true → all_below (slot_count n) slots ≡ true
    → true_count values (games_in n meetings slots) ≡ games_of m meetings slots
games_listed n m values meetings slots mirrors fit slots_fit =
    let one : Literal → ℕ = λ l. cond (is_true values l) 1 0 in
    let row : ℕ × ℕ → List Literal = λ p. map (λ s. yes (x_var n p.0 p.1 s)) slots in
    sum_by-flat_map one row meetings
    ∙ sum_by-agree (is_meeting n) (λ p. sum_by one (row p)) (λ p. sum_by (λ s. m p.0 p.1 s) slots)
    (λ p meet.
    let parts = meeting_parts n p meet in
    sum_by-map one (λ s. yes (x_var n p.0 p.1 s)) slots
    ∙ sum_by-agree (λ s. nat_lt s (slot_count n)) (λ s. one (yes (x_var n p.0 p.1 s))) (λ s. m p.0 p.1 s)
    (λ s slot. mirrors p.0 p.1 s parts.0 parts.1 parts.2
    (ltb-true s (slot_count n) slot)) slots slots_fit) meetings fit

-- another team comes before or after
before_or_after : (i j x : ℕ) → cond (nat_lt j i) x 0 + cond (nat_lt i j) x 0 ≡ cond (not (j == i)) x 0
before_or_after i j x = grind (arith, nat_tests)

-- the order in which meetings are listed doesn't matter to a sum
pub sum_by-in_order : (f : ℕ × ℕ → ℕ) (side : Side) (i : ℕ) (teams : List ℕ)
    → sum_by f (meetings_in_order side i teams) ≡ sum_by f (meetings_with side i teams)
sum_by-in_order f H i teams = refl
sum_by-in_order f A i teams = refl
sum_by-in_order f Both i teams =
    let visit : ℕ → ℕ × ℕ = λ j. (j, i) in
    let away : ℕ → ℕ = λ j. f (j, i) in
    let earlier : List (ℕ × ℕ) = map visit (filter (λ j. nat_lt j i) teams) in
    let later : List (ℕ × ℕ) = map visit (filter (λ j. nat_lt i j) teams) in
    omega (
      arith,
      sum_by-append f (earlier ++ meetings_with H i teams) later,
      sum_by-append f earlier (meetings_with H i teams),
      sum_by-append f (meetings_with H i teams) (meetings_with A i teams),
      sum_by-map f visit (filter (λ j. nat_lt j i) teams),
      sum_by-map f visit (filter (λ j. nat_lt i j) teams),
      sum_by-map f visit (others i teams),
      sum_by-filter away (λ j. nat_lt j i) teams,
      sum_by-filter away (λ j. nat_lt i j) teams,
      sum_by-filter away (λ j. not (j == i)) teams,
      sum_by-add (λ j. cond (nat_lt j i) (away j) 0) (λ j. cond (nat_lt i j) (away j) 0) teams,
      sum_by-same (λ j. cond (nat_lt j i) (away j) 0 + cond (nat_lt i j) (away j) 0)
          (λ j. cond (not (j == i)) (away j) 0) (λ j. before_or_after i j (away j)) teams,
    )
