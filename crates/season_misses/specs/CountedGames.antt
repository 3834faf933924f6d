-- What a class counts at a key.
use Rattle.std.specs.Prelude.{Bool, true, false}
use Rattle.league.specs.declared.class.Class.{Class}
use Rattle.league.specs.declared.class.Class.TheVariants.{Ca1, Ca2, Ca3, Ca4, Ga1, Br1, Br2, Fa2, Se1}

-- whether it counts the games of a team
abbrev pub counts_games_of_a_team : Class → Bool
counts_games_of_a_team (Ca1 teams min max side slots) = true
counts_games_of_a_team (Ca2 teams1 teams2 min max side slots) = true
counts_games_of_a_team (Ca3 teams1 teams2 min max intp side) = true
counts_games_of_a_team _ = false

-- whether it counts the games of a team in windows
abbrev pub counts_in_windows : Class → Bool
counts_in_windows (Ca3 teams1 teams2 min max intp side) = true
counts_in_windows _ = false

-- whether it counts games of some meetings
abbrev pub counts_games_of_meetings : Class → Bool
counts_games_of_meetings (Ca4 teams1 teams2 min max side span slots) = true
counts_games_of_meetings (Ga1 meetings min max slots) = true
counts_games_of_meetings _ = false

-- whether it counts breaks
abbrev pub counts_breaks : Class → Bool
counts_breaks (Br1 teams intp side slots) = true
counts_breaks (Br2 teams intp slots) = true
counts_breaks _ = false

-- whether it compares two teams
abbrev pub compares_teams : Class → Bool
compares_teams (Fa2 teams intp slots) = true
compares_teams (Se1 teams min) = true
compares_teams _ = false
