-- The rows of a season, groups 1 to 3, are all satisfied exactly where the schedule that the values mirror is a round
-- robin: what each group says is that one of its three counts is 0.
use Rattle.std.proofs.Common.{◌≡◌, ℕ, zero, suc, ◌+◌, ◌-◌, ◌<◌, ◌≤◌, Bool, true, false, not, ◌&&◌, ◌==◌, nat_lt}
use Rattle.std.proofs.Common.{List, [], ◌∷◌, map, if◌then◌else◌}
use Rattle.std.proofs.Common.{refl, arith, ap, ◌∙◌, sym}
use Rattle.std.proofs.lemmas.Bool.{and_from, lt-ltb, ltb-true}
use Rattle.std.proofs.lemmas.Bool.Decides.{nat_tests}
use Rattle.std.proofs.lemmas.List.Folds.{list_all-append, list_all-map, sum_by-zero}
use Rattle.std.proofs.lemmas.List.Sums.{sum_by-append}
use Rattle.std.specs.List.{count_by, flat_map, list_all, range_with_len, sum_by}
use Rattle.league.specs.Capacity.{meetings_with}
use Rattle.league.specs.Counts.{Counts, slot_count, slots_of, teams_of}
use Rattle.league.specs.Instance.{is_meeting}
use Rattle.league.specs.Meetings.{games_of, meetings_of, others, pairs_of}
use Rattle.league.specs.Structure.{cells_wrong, first_half, isnt_one, pairs_wrong, phases_wrong}
use Rattle.league.specs.Venues.{away_games, games_on, home_games}
use Rattle.league.specs.declared.class.Side.TheVariants.{H, A, Both}
use Rattle.league.proofs.MeetingLemmas.{sum_by-others}
use Rattle.league.proofs.RangeLemmas.{one_if}
use Rattle.league.proofs.SumLemmas.{sum_by-filter, sum_by-map, sum_by-same}
use Rattle.rows.specs.Cardinality.{exactly}
use Rattle.rows.specs.Tests.{all_satisfied, satisfied}
use Rattle.rows.proofs.ListLemmas.{list_all-agree, list_all-flat_map, list_all-range, list_all-same}
use Rattle.rows.proofs.TestLemmas.{satisfied-exactly}
use Rattle.encoding.specs.Lists.{games_in, meetings_in_order}
use Rattle.encoding.specs.Season.{cell_rows, cell_rows_at, half_rows, meeting_rows}
use Rattle.decoding.specs.Below.{all_below}
use Rattle.decoding.specs.Mirrors.{MirrorsGames}
use Rattle.decoding.proofs.MeetingLists.{games_listed, meetings_in_order-fit, meetings_of-fit, sum_by-in_order}
use Rattle.decoding.proofs.MeetingLists.{teams_of-fit}

-- no team plays against itself
abbrev pub PlaysOthers : ℕ → Counts → Type 0
PlaysOthers n m = (i s : ℕ) → i < n → s < slot_count n → m i i s ≡ 0

right_where_one : (x : ℕ) → (one_if (isnt_one x) == 0) ≡ (x == 1)
right_where_one x = grind (arith, nat_tests)

-- nothing is wrong where each number is 1
pub none_wrong : {X : Type 0} (f : X → ℕ) (xs : List X) →
    (count_by (λ x. isnt_one (f x)) xs == 0) ≡ list_all (λ x. f x == 1) xs
none_wrong f xs =
    sum_by-zero (λ x. one_if (isnt_one (f x))) xs
    ∙ list_all-same (λ x. one_if (isnt_one (f x)) == 0) (λ x. f x == 1) (λ x. right_where_one (f x)) xs

pub slots_of-fit : (n : ℕ) → all_below (slot_count n) (slots_of n) ≡ true
slots_of-fit n = list_all-range (λ s. nat_lt s (slot_count n)) 0 (slot_count n)
    (λ s from within. lt-ltb s (slot_count n) (omega arith))

-- rows that demand one game of some meetings in some slots
pub once_listed : (n : ℕ) (m : Counts) (values : ℕ → Bool) (meetings : List (ℕ × ℕ)) (slots : List ℕ) →
    MirrorsGames n m values → list_all (is_meeting n) meetings ≡ true → all_below (slot_count n) slots ≡ true →
    all_satisfied values (exactly 1 (games_in n meetings slots)) ≡ (games_of m meetings slots == 1)
once_listed n m values meetings slots mirrors fit slots_fit =
    satisfied-exactly values 1 (games_in n meetings slots) ∙ ap (λ (c : ℕ). c == 1)
    (games_listed n m values meetings slots mirrors fit slots_fit)

-- group 1
pub meeting_rows-law : (n : ℕ) (m : Counts) (values : ℕ → Bool) → MirrorsGames n m values →
    all_satisfied values (meeting_rows n) ≡ (pairs_wrong n m == 0)
meeting_rows-law n m values mirrors =
    list_all-flat_map (satisfied values) (λ p. exactly 1 (games_in n (p ∷ []) (slots_of n))) (meetings_of n)
    ∙ list_all-agree (is_meeting n) (λ p. all_satisfied values (exactly 1 (games_in n (p ∷ []) (slots_of n))))
    (λ p. games_of m (p ∷ []) (slots_of n) == 1)
    (λ p meet. once_listed n m values (p ∷ []) (slots_of n) mirrors (and_from (is_meeting n p) true meet refl)
    (slots_of-fit n)) (meetings_of n) (meetings_of-fit n)
    ∙ sym (none_wrong (λ p. games_of m (p ∷ []) (slots_of n)) (meetings_of n))

-- a sum that leaves out a term which is 0
without_itself : (f : ℕ → ℕ) (i j : ℕ) → f i ≡ 0 → (if not (j == i) then 0 + f j else 0) ≡ f j
without_itself f i j none = grind (arith, nat_tests)

-- the home games of a team in a slot, and its away games, as meetings
pub home_listed : (n : ℕ) (m : Counts) (i s : ℕ) → m i i s ≡ 0 →
    games_of m (meetings_with H i (teams_of n)) (s ∷ []) ≡ home_games n m i s
home_listed n m i s none =
    let games : ℕ × ℕ → ℕ = λ p. sum_by (λ t. m p.0 p.1 t) (s ∷ []) in
    sum_by-others games i (teams_of n)
    ∙ sum_by-same (λ j. if not (j == i) then games (i, j) else 0) (λ j. m i j s)
    (λ j. without_itself (λ k. m i k s) i j none) (teams_of n)

pub away_listed : (n : ℕ) (m : Counts) (i s : ℕ) → m i i s ≡ 0 →
    games_of m (meetings_with A i (teams_of n)) (s ∷ []) ≡ away_games n m i s
away_listed n m i s none =
    let games : ℕ × ℕ → ℕ = λ p. sum_by (λ t. m p.0 p.1 t) (s ∷ []) in
    let visit : ℕ → ℕ × ℕ = λ j. (j, i) in
    sum_by-map games visit (others i (teams_of n))
    ∙ sum_by-filter (λ j. games (j, i)) (λ j. not (j == i)) (teams_of n)
    ∙ sum_by-same (λ j. if not (j == i) then games (j, i) else 0) (λ j. m j i s)
    (λ j. without_itself (λ k. m k i s) i j none) (teams_of n)

-- all games of a team in a slot
team_listed : (n : ℕ) (m : Counts) (i s : ℕ) → m i i s ≡ 0 →
    games_of m (meetings_in_order Both i (teams_of n)) (s ∷ []) ≡ games_on n m Both i s
team_listed n m i s none =
    let games : ℕ × ℕ → ℕ = λ p. sum_by (λ t. m p.0 p.1 t) (s ∷ []) in
    let in_order = sum_by-in_order games Both i (teams_of n) in
    omega (
      arith,
      in_order,
      sum_by-append games (meetings_with H i (teams_of n)) (meetings_with A i (teams_of n)),
      home_listed n m i s none,
      away_listed n m i s none,
    )

-- group 2, of one team
team_cells : (n : ℕ) (m : Counts) (values : ℕ → Bool) (i : ℕ) → MirrorsGames n m values → PlaysOthers n m → i < n →
    all_satisfied values (flat_map (cell_rows_at n i) (slots_of n))
    ≡ (count_by (λ s. isnt_one (games_on n m Both i s)) (slots_of n) == 0)
team_cells n m values i mirrors others team =
    let meetings : List (ℕ × ℕ) = meetings_in_order Both i (teams_of n) in
    list_all-flat_map (satisfied values) (cell_rows_at n i) (slots_of n)
    ∙ list_all-agree (λ s. nat_lt s (slot_count n)) (λ s. all_satisfied values (cell_rows_at n i s))
    (λ s. games_on n m Both i s == 1)
    (λ s slot.
    once_listed n m values meetings (s ∷ []) mirrors
    (meetings_in_order-fit n i team (teams_of n) (teams_of-fit n) Both)
    (and_from (nat_lt s (slot_count n)) true slot refl)
    ∙ ap (λ (c : ℕ). c == 1) (team_listed n m i s (others i s team (ltb-true s (slot_count n) slot)))) (slots_of n)
    (slots_of-fit n)
    ∙ sym (none_wrong (λ s. games_on n m Both i s) (slots_of n))

-- group 2
pub cell_rows-law : (n : ℕ) (m : Counts) (values : ℕ → Bool) → MirrorsGames n m values → PlaysOthers n m →
    all_satisfied values (cell_rows n) ≡ (cells_wrong n m == 0)
cell_rows-law n m values mirrors others =
    list_all-flat_map (satisfied values) (λ i. flat_map (cell_rows_at n i) (slots_of n)) (teams_of n)
    ∙ list_all-agree (λ i. nat_lt i n) (λ i. all_satisfied values (flat_map (cell_rows_at n i) (slots_of n)))
    (λ i. count_by (λ s. isnt_one (games_on n m Both i s)) (slots_of n) == 0)
    (λ i team. team_cells n m values i mirrors others (ltb-true i n team)) (teams_of n) (teams_of-fit n)
    ∙ sym (sum_by-zero (λ i. count_by (λ s. isnt_one (games_on n m Both i s)) (slots_of n)) (teams_of n))

-- the pairs of a range of teams: the first is before the second
pairs_of-ordered : (n a k : ℕ) → a + k ≤ n → list_all (λ p. nat_lt p.0 p.1 && nat_lt p.1 n)
    (pairs_of (range_with_len a k)) ≡ true
pairs_of-ordered n a zero within = refl
pairs_of-ordered n a (suc k) within =
    let ordered : ℕ × ℕ → Bool = λ p. nat_lt p.0 p.1 && nat_lt p.1 n in
    let pair : ℕ → ℕ × ℕ = λ j. (a, j) in
    let later : List ℕ = range_with_len (a + 1) k in
    list_all-append ordered (map pair later) (pairs_of later)
    ∙ and_from _ _
    (list_all-map ordered pair later
    ∙ list_all-range (λ j. nat_lt a j && nat_lt j n) (a + 1) k
    (λ j from below. and_from _ _ (lt-ltb a j (omega arith)) (lt-ltb j n (omega arith))))
    (pairs_of-ordered n (a + 1) k (omega arith))

two_meetings : (n i j : ℕ) → (nat_lt i j && nat_lt j n) ≡ true → list_all (is_meeting n) ((i, j) ∷ (j, i) ∷ []) ≡ true
two_meetings n i j ordered = grind (arith, nat_tests)

first_half-fit : (n : ℕ) → all_below (slot_count n) (first_half n) ≡ true
first_half-fit n = list_all-range (λ s. nat_lt s (slot_count n)) 0 (n - 1)
    (λ s from within. lt-ltb s (slot_count n) (omega arith))

-- group 3
pub half_rows-law : (n : ℕ) (phased : Bool) (m : Counts) (values : ℕ → Bool) → MirrorsGames n m values →
    all_satisfied values (half_rows n phased) ≡ (phases_wrong n phased m == 0)
half_rows-law n true m values mirrors =
    let both_ways : ℕ × ℕ → List (ℕ × ℕ) = λ p. p ∷ (p.1, p.0) ∷ [] in
    list_all-flat_map (satisfied values) (λ p. exactly 1 (games_in n (both_ways p) (first_half n)))
    (pairs_of (teams_of n))
    ∙ list_all-agree (λ p. nat_lt p.0 p.1 && nat_lt p.1 n)
    (λ p. all_satisfied values (exactly 1 (games_in n (both_ways p) (first_half n))))
    (λ p. games_of m (both_ways p) (first_half n) == 1)
    (λ p ordered. once_listed n m values (both_ways p) (first_half n) mirrors (two_meetings n p.0 p.1 ordered)
    (first_half-fit n)) (pairs_of (teams_of n)) (pairs_of-ordered n 0 n (omega arith))
    ∙ sym (none_wrong (λ p. games_of m (both_ways p) (first_half n)) (pairs_of (teams_of n)))
half_rows-law n false m values mirrors = refl
