-- Lists of literals, in ascending order of their variables where teams, slots and meetings ascend.
use Rattle.std.specs.Prelude.{ℕ, ◌+◌, nat_lt, List, [], ◌++◌, map}
use Rattle.std.specs.List.{filter, flat_map, range_with_len}
use Rattle.league.specs.Capacity.{meetings_with}
use Rattle.league.specs.declared.class.Side.{Side}
use Rattle.league.specs.declared.class.Side.TheVariants.{H, A, Both}
use Rattle.rows.specs.Literals.{Literal, yes, no}
use Rattle.encoding.specs.Variables.{x_var, h_var, hb_var, ab_var}

-- the games of these meetings in these slots: x(i,j,s)
abbrev pub games_in : ℕ → List (ℕ × ℕ) → List ℕ → List Literal
games_in n meetings slots = flat_map (λ p. map (λ s. yes (x_var n p.0 p.1 s)) slots) meetings

-- the meetings of team i with these teams on a side, itself left out, in order of home team, then away team
abbrev pub meetings_in_order : Side → ℕ → List ℕ → List (ℕ × ℕ)
meetings_in_order H i teams = meetings_with H i teams
meetings_in_order A i teams = meetings_with A i teams
meetings_in_order Both i teams =
    map (λ j. (j, i)) (filter (λ j. nat_lt j i) teams)
    ++ meetings_with H i teams
    ++ map (λ j. (j, i)) (filter (λ j. nat_lt i j) teams)

-- team i is at home in these slots: h(i,s)
abbrev pub at_home_in : ℕ → ℕ → List ℕ → List Literal
at_home_in n i slots = map (λ s. yes (h_var n i s)) slots

-- team i is away in these slots: not h(i,s)
abbrev pub away_in : ℕ → ℕ → List ℕ → List Literal
away_in n i slots = map (λ s. no (h_var n i s)) slots

-- team i plays on the side in these slots; only CA1 asks, which has no side HA
abbrev pub venues_in : Side → ℕ → ℕ → List ℕ → List Literal
venues_in H n i slots = at_home_in n i slots
venues_in A n i slots = away_in n i slots
venues_in Both n i slots = []

-- the slots 0 to s
abbrev pub slots_up_to : ℕ → List ℕ
slots_up_to s = range_with_len 0 (s + 1)

-- the ones of some slots that have a slot before them
abbrev pub after_first : List ℕ → List ℕ
after_first slots = filter (λ s. nat_lt 0 s) slots

-- team i has a home break, or an away break, at these slots, from slot 1 on: hb(i,s), ab(i,s)
abbrev pub home_breaks_at : ℕ → ℕ → List ℕ → List Literal
home_breaks_at n i slots = map (λ s. yes (hb_var n i s)) (after_first slots)

abbrev pub away_breaks_at : ℕ → ℕ → List ℕ → List Literal
away_breaks_at n i slots = map (λ s. yes (ab_var n i s)) (after_first slots)

-- the breaks of team i on a side at these slots
abbrev pub breaks_in : Side → ℕ → ℕ → List ℕ → List Literal
breaks_in H n i slots = home_breaks_at n i slots
breaks_in A n i slots = away_breaks_at n i slots
breaks_in Both n i slots = home_breaks_at n i slots ++ away_breaks_at n i slots
