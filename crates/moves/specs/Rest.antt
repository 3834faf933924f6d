-- The moves from one on, in the order of all moves.
use Rattle.std.specs.Prelude.{◌≡◌, ℕ, ◌+◌, ◌-◌, ◌<◌, List, [], ◌++◌, map, Option, Some, None}
use Rattle.std.specs.List.{flat_map, range_with_len}
use Rattle.league.specs.Counts.{slot_count, slots_of, teams_of}
use Rattle.league.specs.Meetings.{pairs_of}
use Rattle.moves.specs.Neighbours.{home_swap, part_round_swap, part_team_swap, round_swap, team_swap}
use Rattle.moves.specs.declared.swap.Swap.{Swap}
use Rattle.moves.specs.declared.swap.Swap.TheVariants.{HomeSwap, RoundSwap, TeamSwap, PartRoundSwap, PartTeamSwap}

-- the pairs of numbers below k after (a, b), in order
abbrev pub pairs_after : ℕ → ℕ → ℕ → List (ℕ × ℕ)
pairs_after k a b =
    map (λ j. (a, j)) (range_with_len (b + 1) (k - (b + 1))) ++ pairs_of (range_with_len (a + 1) (k - (a + 1)))

-- the pairs of numbers below k from (a, b) on, in order
abbrev pub pairs_from : ℕ → ℕ → ℕ → List (ℕ × ℕ)
pairs_from k a b = map (λ j. (a, j)) (range_with_len b (k - b)) ++ pairs_of (range_with_len (a + 1) (k - (a + 1)))

-- the part team swaps of some pairs
abbrev pub part_team_swaps : ℕ → List (ℕ × ℕ) → List Swap
part_team_swaps n pairs = flat_map (λ p. map (part_team_swap p) (slots_of n)) pairs

-- the part round swaps of some teams
abbrev pub part_round_swaps : ℕ → List ℕ → List Swap
part_round_swaps n teams = flat_map (λ i. map (part_round_swap i) (pairs_of (slots_of n))) teams

-- the moves from a kind on
abbrev pub from_part_teams : ℕ → List Swap
from_part_teams n = part_team_swaps n (pairs_of (teams_of n))

abbrev pub from_part_rounds : ℕ → List Swap
from_part_rounds n = part_round_swaps n (teams_of n) ++ from_part_teams n

abbrev pub from_teams : ℕ → List Swap
from_teams n = map team_swap (pairs_of (teams_of n)) ++ from_part_rounds n

abbrev pub from_rounds : ℕ → List Swap
from_rounds n = map round_swap (pairs_of (slots_of n)) ++ from_teams n

-- a move and those after it
abbrev pub moves_from : ℕ → Swap → List Swap
moves_from n (HomeSwap i j) = map home_swap (pairs_from n i.0 j.0) ++ from_rounds n
moves_from n (RoundSwap s t) = map round_swap (pairs_from (slot_count n) s.0 t.0) ++ from_teams n
moves_from n (TeamSwap i j) = map team_swap (pairs_from n i.0 j.0) ++ from_part_rounds n
moves_from n (PartRoundSwap i s t) =
    map (part_round_swap i.0) (pairs_from (slot_count n) s.0 t.0)
    ++ (part_round_swaps n (range_with_len (i.0 + 1) (n - (i.0 + 1))) ++ from_part_teams n)
moves_from n (PartTeamSwap i j s) =
    map (part_team_swap (i.0, j.0)) (range_with_len s.0 (slot_count n - s.0))
    ++ part_team_swaps n (pairs_after n i.0 j.0)

-- what comes after a part round swap, and after a part team swap
abbrev pub after_part_round : ℕ → ℕ → ℕ → ℕ → List Swap
after_part_round n i s t =
    map (part_round_swap i) (pairs_after (slot_count n) s t)
    ++ (part_round_swaps n (range_with_len (i + 1) (n - (i + 1))) ++ from_part_teams n)

abbrev pub after_part_team : ℕ → ℕ → ℕ → ℕ → List Swap
after_part_team n i j s =
    map (part_team_swap (i, j)) (range_with_len (s + 1) (slot_count n - (s + 1)))
    ++ part_team_swaps n (pairs_after n i j)

-- the moves from the next one on, if there is one
abbrev pub rest_of : ℕ → Option Swap → List Swap
rest_of n None = []
rest_of n (Some step) = moves_from n step

-- a move of the list of all moves
abbrev pub IsListed : ℕ → Swap → Type 0
IsListed n (HomeSwap i j) = (i.0 < j.0) × (j.0 < n)
IsListed n (RoundSwap s t) = (s.0 < t.0) × (t.0 < slot_count n)
IsListed n (TeamSwap i j) = (i.0 < j.0) × (j.0 < n)
IsListed n (PartRoundSwap i s t) = (i.0 < n) × (s.0 < t.0) × (t.0 < slot_count n)
IsListed n (PartTeamSwap i j s) = (i.0 < j.0) × (j.0 < n) × (s.0 < slot_count n)

abbrev pub IsNextListed : ℕ → Option Swap → Type 0
IsNextListed n None = Unit {0}
IsNextListed n (Some step) = IsListed n step

-- the moves from the next one on are these
pub record LeadsTo (n : ℕ) (moves : List Swap) (next : Option Swap) : Type 0 where
  pub listed : IsNextListed n next
  pub rest : moves ≡ rest_of n next
