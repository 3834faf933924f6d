-- The rows that make a double round robin, groups 1 to 6, and those that tie breaks to venues, group 7 (own encoding).
use Rattle.std.specs.Prelude.{ℕ, ◌-◌, ◌/◌, Bool, if◌then◌else◌, List, [], ◌∷◌, ◌++◌, map}
use Rattle.std.specs.List.{flat_map}
use Rattle.league.specs.Capacity.{meetings_with}
use Rattle.league.specs.Counts.{teams_of, slots_of}
use Rattle.league.specs.Meetings.{meetings_of, pairs_of}
use Rattle.league.specs.Structure.{first_half}
use Rattle.league.specs.declared.class.Side.TheVariants.{H, Both}
use Rattle.rows.specs.Cardinality.{at_least, exactly, unit}
use Rattle.rows.specs.Literals.{Literal, negate, no, yes}
use Rattle.rows.specs.Rows.{Row}
use Rattle.encoding.specs.Lists.{after_first, at_home_in, games_in, meetings_in_order}
use Rattle.encoding.specs.Variables.{ab_var, h_var, hb_var}

-- 1. each meeting takes place once
abbrev pub meeting_rows : ℕ → List Row
meeting_rows n = flat_map (λ p. exactly 1 (games_in n (p ∷ []) (slots_of n))) (meetings_of n)

-- team i has one game in slot s
abbrev pub cell_rows_at : ℕ → ℕ → ℕ → List Row
cell_rows_at n i s = exactly 1 (games_in n (meetings_in_order Both i (teams_of n)) (s ∷ []))

-- 2. each team has one game in each slot
abbrev pub cell_rows : ℕ → List Row
cell_rows n = flat_map (λ i. flat_map (cell_rows_at n i) (slots_of n)) (teams_of n)

-- 3. in a phased league, each two teams meet once in the first half
abbrev pub half_rows : ℕ → Bool → List Row
half_rows n phased =
    if phased
    then flat_map (λ p. exactly 1 (games_in n (p ∷ (p.1, p.0) ∷ []) (first_half n))) (pairs_of (teams_of n))
    else []

-- the home games of team i in slot s
abbrev pub home_games_in : ℕ → ℕ → ℕ → List Literal
home_games_in n i s = games_in n (meetings_with H i (teams_of n)) (s ∷ [])

-- where h(i,s) is true, team i has a home game in slot s
abbrev pub home_needs_game : ℕ → ℕ → ℕ → Row
home_needs_game n i s = at_least 1 (home_games_in n i s ++ no (h_var n i s) ∷ [])

-- where it isn't, none of its n - 1 home games is in slot s
abbrev pub game_needs_home : ℕ → ℕ → ℕ → Row
game_needs_home n i s = record {
  terms = map unit (map negate (home_games_in n i s)) ++ record { coef = n - 1; lit = yes (h_var n i s) } ∷ [];
  degree = n - 1;
}

-- 4. h(i,s) says whether team i has a home game in slot s
abbrev pub venue_rows : ℕ → List Row
venue_rows n =
    flat_map (λ i. flat_map (λ s. home_needs_game n i s ∷ game_needs_home n i s ∷ []) (slots_of n)) (teams_of n)

-- 5. in each slot half of the teams play at home
abbrev pub slot_rows : ℕ → List Row
slot_rows n = flat_map (λ s. exactly (n / 2) (map (λ i. yes (h_var n i s)) (teams_of n))) (slots_of n)

-- 6. each team plays at home in half of its games
abbrev pub team_rows : ℕ → List Row
team_rows n = flat_map (λ i. exactly (n - 1) (at_home_in n i (slots_of n))) (teams_of n)

-- b is true exactly where p and q are, which stand before it: b needs p, b needs q, and p with q needs b
abbrev pub both_needed : ℕ → ℕ → ℕ → List Row
both_needed p q b =
    at_least 1 (yes p ∷ no b ∷ [])
    ∷ at_least 1 (yes q ∷ no b ∷ [])
    ∷ at_least 1 (no p ∷ no q ∷ yes b ∷ [])
    ∷ []

-- b is true exactly where p and q are false
abbrev pub neither_needed : ℕ → ℕ → ℕ → List Row
neither_needed p q b =
    at_least 1 (no p ∷ no b ∷ [])
    ∷ at_least 1 (no q ∷ no b ∷ [])
    ∷ at_least 1 (yes p ∷ yes q ∷ yes b ∷ [])
    ∷ []

-- a home break at slot s is a home game in slot s - 1 and in s; an away break is none in both
abbrev pub break_rows_at : ℕ → ℕ → ℕ → List Row
break_rows_at n i s =
    both_needed (h_var n i (s - 1)) (h_var n i s) (hb_var n i s)
    ++ neither_needed (h_var n i (s - 1)) (h_var n i s) (ab_var n i s)

-- 7. where breaks have variables, these say whether each team has a break at each slot from 1 on
abbrev pub break_rows : ℕ → Bool → List Row
break_rows n breaks =
    if breaks then flat_map (λ i. flat_map (break_rows_at n i) (after_first (slots_of n))) (teams_of n) else []
