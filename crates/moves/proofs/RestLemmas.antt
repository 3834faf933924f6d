-- The list of all moves, from one move to the next.
use Rattle.std.proofs.Common.{◌≡◌, ℕ, suc, ◌+◌, ◌-◌, ◌<◌, ◌≤◌, List, [], ◌∷◌, ◌++◌, map, append_assoc, arith, ap, sym, ◌∙◌}
use Rattle.std.specs.List.{range_with_len}
use Rattle.league.specs.Counts.{slot_count, slots_of, teams_of}
use Rattle.league.specs.Meetings.{pairs_of}
use Rattle.moves.specs.Neighbours.{all_moves, home_swap, part_round_swap, part_team_swap, round_swap, team_swap}
use Rattle.moves.specs.Rest.{after_part_round, after_part_team, from_part_rounds, from_part_teams, from_rounds, from_teams, moves_from, pairs_after, pairs_from, part_round_swaps, part_team_swaps}
use Rattle.moves.specs.declared.swap.Swap.{Swap}
use Rattle.moves.specs.declared.swap.Swap.TheVariants.{HomeSwap, RoundSwap, TeamSwap, PartRoundSwap, PartTeamSwap}

-- a range from its first number on
range-from : (a k : ℕ) → a < k → range_with_len a (k - a) ≡ a ∷ range_with_len (a + 1) (k - (a + 1))
range-from a k lt =
    let longer : k - a ≡ suc (k - (a + 1)) = omega arith in
    ap (range_with_len a) longer

range-none : (a k : ℕ) → k ≤ a → range_with_len a (k - a) ≡ []
range-none a k le = let none : k - a ≡ 0 = omega arith in ap (range_with_len a) none

-- a pair, and those after it
pub pairs_from-first : (k a b : ℕ) → b < k → pairs_from k a b ≡ (a, b) ∷ pairs_after k a b
pairs_from-first k a b lt =
    ap (λ (js : List ℕ). map (λ j. (a, j)) js ++ pairs_of (range_with_len (a + 1) (k - (a + 1)))) (range-from b k lt)

-- all pairs, from a first number on
pairs_of-from : (k a : ℕ) → a < k → pairs_of (range_with_len a (k - a)) ≡ pairs_from k a (a + 1)
pairs_of-from k a lt = ap pairs_of (range-from a k lt)

-- the pairs from one with the next first number on
pub pairs_after-next : (k a b : ℕ) → k ≤ b + 1 → a + 1 < k → pairs_after k a b ≡ pairs_from k (a + 1) (a + 2)
pairs_after-next k a b last lt =
    let two : a + 1 + 1 ≡ a + 2 = omega arith in
    ap (λ (js : List ℕ). map (λ j. (a, j)) js ++ pairs_of (range_with_len (a + 1) (k - (a + 1)))) (range-none (b + 1) k last)
    ∙ pairs_of-from k (a + 1) lt
    ∙ ap (λ (b : ℕ). pairs_from k (a + 1) b) two

pub pairs_after-none : (k a b : ℕ) → k ≤ b + 1 → a < b → b < k → k ≤ a + 2 → pairs_after k a b ≡ []
pairs_after-none k a b last lt below few =
    let one : a + 1 < k = omega arith in
    ap (λ (js : List ℕ). map (λ j. (a, j)) js ++ pairs_of (range_with_len (a + 1) (k - (a + 1)))) (range-none (b + 1) k last)
    ∙ ap pairs_of (range-from (a + 1) k one)
    ∙ ap (λ (js : List ℕ). map (λ j. (a + 1, j)) js ++ pairs_of js) (range-none (a + 1 + 1) k (omega arith))

-- all pairs of the numbers below k
pub pairs_from-start : (k : ℕ) → 1 ≤ k → pairs_from k 0 1 ≡ pairs_of (range_with_len 0 k)
pairs_from-start k le =
    let whole : k - 0 ≡ k = omega arith in
    sym (pairs_of-from k 0 (omega arith)) ∙ ap (λ (l : ℕ). pairs_of (range_with_len 0 l)) whole

-- each kind begins with its first move
pub from_rounds-start : (n : ℕ) → 2 ≤ n → from_rounds n ≡ moves_from n (RoundSwap (record { 0 = 0 }) (record { 0 = 1 }))
from_rounds-start n le = ap (λ (ps : List (ℕ × ℕ)). map round_swap ps ++ from_teams n) (sym (pairs_from-start (slot_count n) (omega arith)))

pub from_teams-start : (n : ℕ) → 2 ≤ n → from_teams n ≡ moves_from n (TeamSwap (record { 0 = 0 }) (record { 0 = 1 }))
from_teams-start n le = ap (λ (ps : List (ℕ × ℕ)). map team_swap ps ++ from_part_rounds n) (sym (pairs_from-start n (omega arith)))

-- the part round swaps from a team on
pub part_rounds-from : (n i : ℕ) → i < n → 2 ≤ n → part_round_swaps n (range_with_len i (n - i)) ++ from_part_teams n ≡ moves_from n (PartRoundSwap (record { 0 = i }) (record { 0 = 0 }) (record { 0 = 1 }))
part_rounds-from n i lt le =
    let rest : List Swap = part_round_swaps n (range_with_len (i + 1) (n - (i + 1))) in
    ap (λ (is : List ℕ). part_round_swaps n is ++ from_part_teams n) (range-from i n lt)
    ∙ append_assoc (map (part_round_swap i) (pairs_of (slots_of n))) rest (from_part_teams n)
    ∙ ap (λ (ps : List (ℕ × ℕ)). map (part_round_swap i) ps ++ (rest ++ from_part_teams n)) (sym (pairs_from-start (slot_count n) (omega arith)))

pub from_part_rounds-start : (n : ℕ) → 2 ≤ n → from_part_rounds n ≡ moves_from n (PartRoundSwap (record { 0 = 0 }) (record { 0 = 0 }) (record { 0 = 1 }))
from_part_rounds-start n le =
    let whole : n - 0 ≡ n = omega arith in
    ap (λ (l : ℕ). part_round_swaps n (range_with_len 0 l) ++ from_part_teams n) (sym whole) ∙ part_rounds-from n 0 (omega arith) le

-- the part team swaps from a pair on
pub part_teams-from : (n i j : ℕ) → j < n → part_team_swaps n (pairs_from n i j) ≡ moves_from n (PartTeamSwap (record { 0 = i }) (record { 0 = j }) (record { 0 = 0 }))
part_teams-from n i j lt =
    let whole : slot_count n - 0 ≡ slot_count n = omega arith in
    ap (part_team_swaps n) (pairs_from-first n i j lt)
    ∙ ap (λ (l : ℕ). map (part_team_swap (i, j)) (range_with_len 0 l) ++ part_team_swaps n (pairs_after n i j)) (sym whole)

pub from_part_teams-start : (n : ℕ) → 2 ≤ n → from_part_teams n ≡ moves_from n (PartTeamSwap (record { 0 = 0 }) (record { 0 = 1 }) (record { 0 = 0 }))
from_part_teams-start n le = ap (part_team_swaps n) (sym (pairs_from-start n (omega arith))) ∙ part_teams-from n 0 1 (omega arith)

-- where the part round swaps of the last team have ended
pub part_rounds-none : (n i : ℕ) → n ≤ i + 1 → part_round_swaps n (range_with_len (i + 1) (n - (i + 1))) ++ from_part_teams n ≡ from_part_teams n
part_rounds-none n i le = ap (λ (is : List ℕ). part_round_swaps n is ++ from_part_teams n) (range-none (i + 1) n le)

-- the list begins with its first move
pub all_moves-start : (n : ℕ) → 2 ≤ n → moves_from n (HomeSwap (record { 0 = 0 }) (record { 0 = 1 })) ≡ all_moves n
all_moves-start n le =
    let homes : List Swap = map home_swap (pairs_of (teams_of n)) in
    let rounds : List Swap = map round_swap (pairs_of (slots_of n)) in
    let teams : List Swap = map team_swap (pairs_of (teams_of n)) in
    let part_rounds : List Swap = part_round_swaps n (teams_of n) in
    let part_teams : List Swap = from_part_teams n in
    ap (λ (ps : List (ℕ × ℕ)). map home_swap ps ++ from_rounds n) (pairs_from-start n (omega arith))
    ∙ sym (append_assoc homes rounds (teams ++ (part_rounds ++ part_teams)))
    ∙ sym (append_assoc (homes ++ rounds) teams (part_rounds ++ part_teams))
    ∙ sym (append_assoc (homes ++ rounds ++ teams) part_rounds part_teams)

-- a move, and those after it
pub home_swaps-first : (n i j : ℕ) → j < n → moves_from n (HomeSwap (record { 0 = i }) (record { 0 = j })) ≡ home_swap (i, j) ∷ (map home_swap (pairs_after n i j) ++ from_rounds n)
home_swaps-first n i j lt = ap (λ (ps : List (ℕ × ℕ)). map home_swap ps ++ from_rounds n) (pairs_from-first n i j lt)

pub round_swaps-first : (n s t : ℕ) → t < slot_count n → moves_from n (RoundSwap (record { 0 = s }) (record { 0 = t })) ≡ round_swap (s, t) ∷ (map round_swap (pairs_after (slot_count n) s t) ++ from_teams n)
round_swaps-first n s t lt = ap (λ (ps : List (ℕ × ℕ)). map round_swap ps ++ from_teams n) (pairs_from-first (slot_count n) s t lt)

pub team_swaps-first : (n i j : ℕ) → j < n → moves_from n (TeamSwap (record { 0 = i }) (record { 0 = j })) ≡ team_swap (i, j) ∷ (map team_swap (pairs_after n i j) ++ from_part_rounds n)
team_swaps-first n i j lt = ap (λ (ps : List (ℕ × ℕ)). map team_swap ps ++ from_part_rounds n) (pairs_from-first n i j lt)

pub part_round_swaps-first : (n i s t : ℕ) → t < slot_count n → moves_from n (PartRoundSwap (record { 0 = i }) (record { 0 = s }) (record { 0 = t })) ≡ part_round_swap i (s, t) ∷ after_part_round n i s t
part_round_swaps-first n i s t lt =
    ap (λ (ps : List (ℕ × ℕ)). map (part_round_swap i) ps ++ (part_round_swaps n (range_with_len (i + 1) (n - (i + 1))) ++ from_part_teams n)) (pairs_from-first (slot_count n) s t lt)

pub part_team_swaps-first : (n i j s : ℕ) → s < slot_count n → moves_from n (PartTeamSwap (record { 0 = i }) (record { 0 = j }) (record { 0 = s })) ≡ part_team_swap (i, j) s ∷ after_part_team n i j s
part_team_swaps-first n i j s lt =
    ap (λ (ss : List ℕ). map (part_team_swap (i, j)) ss ++ part_team_swaps n (pairs_after n i j)) (range-from s (slot_count n) lt)

pub part_teams-none : (n i j s : ℕ) → slot_count n ≤ s + 1 → after_part_team n i j s ≡ part_team_swaps n (pairs_after n i j)
part_teams-none n i j s le = ap (λ (ss : List ℕ). map (part_team_swap (i, j)) ss ++ part_team_swaps n (pairs_after n i j)) (range-none (s + 1) (slot_count n) le)
