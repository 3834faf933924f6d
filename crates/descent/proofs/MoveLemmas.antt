-- The list of all moves: each move of the league in its own range stands in it, and it has no move of another league.
use Rattle.std.proofs.Common.{ℕ, zero, suc, ◌+◌, ◌-◌, ◌<◌, ◌≤◌, List, ◌++◌, map, inl, inr, arith, subst, ◌∙◌}
use Rattle.std.specs.List.{All, Contains, flat_map, range_with_len}
use Rattle.std.proofs.lemmas.Bool.{cases_eq}
use Rattle.std.proofs.lemmas.List.Elements.{All-append, All-map, All-nil, Contains-append_left, Contains-append_right}
use Rattle.std.proofs.lemmas.List.FromFn.{get_or-range_with_len, length-range_with_len}
use Rattle.league.specs.Counts.{Counts, slot_count, slots_of, teams_of}
use Rattle.league.specs.Meetings.{pairs_of}
use Rattle.league.proofs.OneTermLemmas.{All-flat_map, All-range}
use Rattle.league.proofs.ListLemmas.{Contains-flat_map, Contains-map}
use Rattle.moves.specs.Moves.{IsInOwnRange, IsOfLeague}
use Rattle.moves.specs.Neighbours.{all_moves, home_swap, part_round_swap, part_team_swap, round_swap, team_swap}
use Rattle.moves.specs.declared.swap.Swap.{Swap}
use Rattle.moves.specs.declared.swap.Swap.TheVariants.{HomeSwap, RoundSwap, TeamSwap, PartRoundSwap, PartTeamSwap}

-- ---- what stands in lists

contains-range : (a k x : ℕ) → a ≤ x → x < a + k → Contains (range_with_len a k) x
contains-range a k x from below =
    (x - a, omega (arith, length-range_with_len a k), get_or-range_with_len a k (x - a) x (omega arith) ∙ omega arith)

contains-pairs : (k a i j : ℕ) → a ≤ i → i < j → j < a + k → Contains {X = ℕ × ℕ} (pairs_of (range_with_len a k)) (i, j)
contains-pairs zero a i j from order below = absurd (omega arith)
contains-pairs (suc k) a i j from order below =
    let later : List ℕ = range_with_len (a + 1) k in
    let pair : ℕ → ℕ × ℕ = λ j. (a, j) in
    let firsts : List (ℕ × ℕ) = map pair later in
    elim (cases_eq a i) as (λ _. Contains {X = ℕ × ℕ} (pairs_of (range_with_len a (suc k))) (i, j)) [
      | inl same ↦
          Contains-append_left firsts (pairs_of later) (i, j)
          (subst (λ (b : ℕ). Contains {X = ℕ × ℕ} firsts (b, j)) same
          (Contains-map pair later j (contains-range (a + 1) k j (omega arith) (omega arith))))
      | inr differ ↦
          Contains-append_right firsts (pairs_of later) (i, j)
          (contains-pairs k (a + 1) i j (omega arith) order (omega arith))
    ]

-- the pairs of the numbers below k
pub pairs-listed : (k i j : ℕ) → i < j → j < k → Contains {X = ℕ × ℕ} (pairs_of (range_with_len 0 k)) (i, j)
pairs-listed k i j order below = contains-pairs k 0 i j (omega arith) order (omega arith)

number-listed : (k x : ℕ) → x < k → Contains (range_with_len 0 k) x
number-listed k x below = contains-range 0 k x (omega arith) (omega arith)

-- ---- each move of the league in its own range is listed

pub all_moves-lists : (n : ℕ) (m : Counts) (step : Swap) → IsOfLeague n step → IsInOwnRange m step
    → Contains (all_moves n) step
all_moves-lists n m (HomeSwap i j) of own =
    let homes : List Swap = map home_swap (pairs_of (teams_of n)) in
    let rounds : List Swap = map round_swap (pairs_of (slots_of n)) in
    let teams : List Swap = map team_swap (pairs_of (teams_of n)) in
    let part_rounds : List Swap = flat_map (λ i. map (part_round_swap i) (pairs_of (slots_of n))) (teams_of n) in
    let part_teams : List Swap = flat_map (λ p. map (part_team_swap p) (slots_of n)) (pairs_of (teams_of n)) in
    let there : Contains homes (HomeSwap i j) = Contains-map home_swap (pairs_of (teams_of n)) (i.0, j.0) (pairs-listed n i.0 j.0 own of.1) in
    Contains-append_left (homes ++ rounds ++ teams ++ part_rounds) part_teams (HomeSwap i j)
    (Contains-append_left (homes ++ rounds ++ teams) part_rounds (HomeSwap i j)
    (Contains-append_left (homes ++ rounds) teams (HomeSwap i j)
    (Contains-append_left homes rounds (HomeSwap i j) there)))
all_moves-lists n m (RoundSwap s t) of own =
    let homes : List Swap = map home_swap (pairs_of (teams_of n)) in
    let rounds : List Swap = map round_swap (pairs_of (slots_of n)) in
    let teams : List Swap = map team_swap (pairs_of (teams_of n)) in
    let part_rounds : List Swap = flat_map (λ i. map (part_round_swap i) (pairs_of (slots_of n))) (teams_of n) in
    let part_teams : List Swap = flat_map (λ p. map (part_team_swap p) (slots_of n)) (pairs_of (teams_of n)) in
    let there : Contains rounds (RoundSwap s t) = Contains-map round_swap (pairs_of (slots_of n)) (s.0, t.0) (pairs-listed (slot_count n) s.0 t.0 own of.1) in
    Contains-append_left (homes ++ rounds ++ teams ++ part_rounds) part_teams (RoundSwap s t)
    (Contains-append_left (homes ++ rounds ++ teams) part_rounds (RoundSwap s t)
    (Contains-append_left (homes ++ rounds) teams (RoundSwap s t)
    (Contains-append_right homes rounds (RoundSwap s t) there)))
all_moves-lists n m (TeamSwap i j) of own =
    let homes : List Swap = map home_swap (pairs_of (teams_of n)) in
    let rounds : List Swap = map round_swap (pairs_of (slots_of n)) in
    let teams : List Swap = map team_swap (pairs_of (teams_of n)) in
    let part_rounds : List Swap = flat_map (λ i. map (part_round_swap i) (pairs_of (slots_of n))) (teams_of n) in
    let part_teams : List Swap = flat_map (λ p. map (part_team_swap p) (slots_of n)) (pairs_of (teams_of n)) in
    let there : Contains teams (TeamSwap i j) = Contains-map team_swap (pairs_of (teams_of n)) (i.0, j.0) (pairs-listed n i.0 j.0 own of.1) in
    Contains-append_left (homes ++ rounds ++ teams ++ part_rounds) part_teams (TeamSwap i j)
    (Contains-append_left (homes ++ rounds ++ teams) part_rounds (TeamSwap i j)
    (Contains-append_right (homes ++ rounds) teams (TeamSwap i j) there))
all_moves-lists n m (PartRoundSwap i s t) of own =
    let homes : List Swap = map home_swap (pairs_of (teams_of n)) in
    let rounds : List Swap = map round_swap (pairs_of (slots_of n)) in
    let teams : List Swap = map team_swap (pairs_of (teams_of n)) in
    let of_team : ℕ → List Swap = λ i. map (part_round_swap i) (pairs_of (slots_of n)) in
    let part_rounds : List Swap = flat_map of_team (teams_of n) in
    let part_teams : List Swap = flat_map (λ p. map (part_team_swap p) (slots_of n)) (pairs_of (teams_of n)) in
    let there : Contains part_rounds (PartRoundSwap i s t) =
    Contains-flat_map of_team (teams_of n) i.0 (PartRoundSwap i s t) (number-listed n i.0 of.0)
    (Contains-map (part_round_swap i.0) (pairs_of (slots_of n)) (s.0, t.0) (pairs-listed (slot_count n) s.0 t.0 own of.2)) in
    Contains-append_left (homes ++ rounds ++ teams ++ part_rounds) part_teams (PartRoundSwap i s t)
    (Contains-append_right (homes ++ rounds ++ teams) part_rounds (PartRoundSwap i s t) there)
all_moves-lists n m (PartTeamSwap i j s) of own =
    let homes : List Swap = map home_swap (pairs_of (teams_of n)) in
    let rounds : List Swap = map round_swap (pairs_of (slots_of n)) in
    let teams : List Swap = map team_swap (pairs_of (teams_of n)) in
    let part_rounds : List Swap = flat_map (λ i. map (part_round_swap i) (pairs_of (slots_of n))) (teams_of n) in
    let of_pair : ℕ × ℕ → List Swap = λ p. map (part_team_swap p) (slots_of n) in
    let part_teams : List Swap = flat_map of_pair (pairs_of (teams_of n)) in
    let there : Contains part_teams (PartTeamSwap i j s) =
    Contains-flat_map of_pair (pairs_of (teams_of n)) (i.0, j.0) (PartTeamSwap i j s) (pairs-listed n i.0 j.0 own.0 of.1)
    (Contains-map (part_team_swap (i.0, j.0)) (slots_of n) s.0 (number-listed (slot_count n) s.0 of.2)) in
    Contains-append_right (homes ++ rounds ++ teams ++ part_rounds) part_teams (PartTeamSwap i j s) there

-- ---- and no move of another league

each_pair : (P : ℕ × ℕ → Type 0) (k a top : ℕ) → a + k ≤ top → ((i j : ℕ) → i < top → j < top → P (i, j))
    → All P (pairs_of (range_with_len a k))
each_pair P zero a top within each = All-nil P
each_pair P (suc k) a top within each =
    let later : List ℕ = range_with_len (a + 1) k in
    let pair : ℕ → ℕ × ℕ = λ j. (a, j) in
    All-append P (map pair later) (pairs_of later)
    (All-map P pair later (All-range (λ j. P (pair j)) (a + 1) k (λ j from below. each a j (omega arith) (omega arith))))
    (each_pair P k (a + 1) top (omega arith) each)

pub all_moves-of_league : (n : ℕ) → All (IsOfLeague n) (all_moves n)
all_moves-of_league n =
    let P : Swap → Type 0 = IsOfLeague n in
    let homes : List Swap = map home_swap (pairs_of (teams_of n)) in
    let rounds : List Swap = map round_swap (pairs_of (slots_of n)) in
    let teams : List Swap = map team_swap (pairs_of (teams_of n)) in
    let of_team : ℕ → List Swap = λ i. map (part_round_swap i) (pairs_of (slots_of n)) in
    let of_pair : ℕ × ℕ → List Swap = λ p. map (part_team_swap p) (slots_of n) in
    let part_rounds : List Swap = flat_map of_team (teams_of n) in
    let part_teams : List Swap = flat_map of_pair (pairs_of (teams_of n)) in
    let few : 0 + n ≤ n = omega arith in
    let few_slots : 0 + slot_count n ≤ slot_count n = omega arith in
    All-append P (homes ++ rounds ++ teams ++ part_rounds) part_teams
    (All-append P (homes ++ rounds ++ teams) part_rounds
    (All-append P (homes ++ rounds) teams
    (All-append P homes rounds
    (All-map P home_swap (pairs_of (teams_of n)) (each_pair (λ p. P (home_swap p)) n 0 n few (λ i j first second. (first, second))))
    (All-map P round_swap (pairs_of (slots_of n)) (each_pair (λ p. P (round_swap p)) (slot_count n) 0 (slot_count n) few_slots (λ s t first second. (first, second)))))
    (All-map P team_swap (pairs_of (teams_of n)) (each_pair (λ p. P (team_swap p)) n 0 n few (λ i j first second. (first, second)))))
    (All-flat_map P of_team (teams_of n) (All-range (λ i. All P (of_team i)) 0 n (λ i from below.
    All-map P (part_round_swap i) (pairs_of (slots_of n)) (each_pair (λ p. P (part_round_swap i p)) (slot_count n) 0 (slot_count n) few_slots
    (λ s t first second. (omega arith, first, second)))))))
    (All-flat_map P of_pair (pairs_of (teams_of n)) (each_pair (λ p. All P (of_pair p)) n 0 n few (λ i j first second.
    All-map P (part_team_swap (i, j)) (slots_of n) (All-range (λ s. P (part_team_swap (i, j) s)) 0 (slot_count n)
    (λ s from below. (first, second, omega arith))))))
