-- All moves of a league of n teams, legal or not, in the order in which a search tries them.
use Rattle.std.specs.Prelude.{ℕ, List, ◌++◌, map}
use Rattle.std.specs.List.{flat_map}
use Rattle.league.specs.Counts.{slots_of, teams_of}
use Rattle.league.specs.Meetings.{pairs_of}
use Rattle.moves.specs.declared.swap.Swap.{Swap}
use Rattle.moves.specs.declared.swap.Swap.TheVariants.{HomeSwap, RoundSwap, TeamSwap, PartRoundSwap, PartTeamSwap}

-- moves by plain numbers
abbrev pub home_swap : ℕ × ℕ → Swap
home_swap p = HomeSwap (record { 0 = p.0 }) (record { 0 = p.1 })

abbrev pub round_swap : ℕ × ℕ → Swap
round_swap p = RoundSwap (record { 0 = p.0 }) (record { 0 = p.1 })

abbrev pub team_swap : ℕ × ℕ → Swap
team_swap p = TeamSwap (record { 0 = p.0 }) (record { 0 = p.1 })

abbrev pub part_round_swap : ℕ → ℕ × ℕ → Swap
part_round_swap i p = PartRoundSwap (record { 0 = i }) (record { 0 = p.0 }) (record { 0 = p.1 })

abbrev pub part_team_swap : ℕ × ℕ → ℕ → Swap
part_team_swap p s = PartTeamSwap (record { 0 = p.0 }) (record { 0 = p.1 }) (record { 0 = s })

-- kind by kind, with all arguments i < j and s < t, ascending by the first, then the second, then the third
abbrev pub all_moves : ℕ → List Swap
all_moves n =
    map home_swap (pairs_of (teams_of n))
    ++ map round_swap (pairs_of (slots_of n))
    ++ map team_swap (pairs_of (teams_of n))
    ++ flat_map (λ i. map (part_round_swap i) (pairs_of (slots_of n))) (teams_of n)
    ++ flat_map (λ p. map (part_team_swap p) (slots_of n)) (pairs_of (teams_of n))
