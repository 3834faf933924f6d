-- The patterns of a schedule, and the breaks that its teams have.
use Rattle.std.specs.Prelude.{ℕ, nat_lt, if◌then◌else◌, List, map}
use Rattle.league.specs.Breaks.{breaks_among}
use Rattle.league.specs.Counts.{Counts, counts_of, slots_of, teams_of}
use Rattle.league.specs.Structure.{first_half}
use Rattle.league.specs.Venues.{home_games}
use Rattle.league.specs.declared.class.Side.{Side}
use Rattle.league.specs.declared.class.Side.TheVariants.{H, A, Both}
use Rattle.circle_method.specs.Circle.{single_games}

-- where a team plays in a slot in which it has so many home games: at home where it has at least one
abbrev pub side_with : ℕ → Side
side_with home = if nat_lt 0 home then H else A

-- where team i plays in slot s: at home where it has at least one home game there
abbrev pub letter_of : ℕ → Counts → ℕ → ℕ → Side
letter_of n m i s = side_with (home_games n m i s)

-- the pattern of team i in some slots
abbrev pub pattern_in : ℕ → Counts → List ℕ → ℕ → List Side
pattern_in n m slots i = map (letter_of n m i) slots

-- the pattern of team i over the season
abbrev pub pattern_of : ℕ → Counts → ℕ → List Side
pattern_of n m i = pattern_in n m (slots_of n) i

-- the patterns of all teams, in order of team
abbrev pub patterns_of : ℕ → Counts → List (List Side)
patterns_of n m = map (pattern_of n m) (teams_of n)

-- the canonical pattern set of n teams (de Werra): the patterns of the single circle schedule in its n - 1 slots
abbrev pub canonical_patterns : ℕ → List (List Side)
canonical_patterns n = map (pattern_in n (counts_of (single_games n)) (first_half n)) (teams_of n)

-- the home and away breaks of each team at some slots, in order of team
abbrev pub team_breaks : ℕ → Counts → List ℕ → List ℕ
team_breaks n m slots = map (breaks_among n m Both slots) (teams_of n)
