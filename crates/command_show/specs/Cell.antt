-- What a team does in a slot, as a cell of the grid.
use Rattle.std.specs.Prelude.{ℕ, ◌+◌, Bool, true, false, ◌&&◌, ◌||◌, ◌==◌, nat_lt, if◌then◌else◌, List, ◌++◌}
use Rattle.std.specs.Prelude.{codes, decimal}
use Rattle.std.specs.List.{list_any, position_or_len, sum_by}
use Rattle.league.specs.Breaks.{is_home_break, is_away_break}
use Rattle.league.specs.Counts.{Counts, teams_of}
use Rattle.league.specs.Structure.{first_half, isnt_one}
use Rattle.league.specs.Venues.{home_games, away_games}

-- the first team of which games are counted, or n where there is none
abbrev pub opponent : ℕ → (ℕ → ℕ) → ℕ
opponent n games = position_or_len (λ j. nat_lt 0 (games j)) (teams_of n)

-- the only game of team i in slot s: the opponent's number, behind `@` where team i is away
abbrev pub one_game : ℕ → Counts → ℕ → ℕ → List ℕ
one_game n m i s =
    if home_games n m i s == 1
    then decimal (opponent n (λ j. m i j s))
    else codes "@" ++ decimal (opponent n (λ j. m j i s))

-- how many games there are, if not one
abbrev pub many_games : ℕ → List ℕ
many_games k = if k == 0 then codes "-" else codes "#" ++ (if nat_lt k 10 then decimal k else codes "+")

-- the games of team i in slot s
abbrev pub games_text : ℕ → Counts → ℕ → ℕ → List ℕ
games_text n m i s =
    let games = home_games n m i s + away_games n m i s in
    if games == 1 then one_game n m i s else many_games games

-- whether team i has a break at slot s, at home or away
abbrev pub has_break : ℕ → Counts → ℕ → ℕ → Bool
has_break n m i s = is_home_break n m i s || is_away_break n m i s

-- how often two teams meet in the first half, at either venue
abbrev pub early_meetings : ℕ → Counts → ℕ → ℕ → ℕ
early_meetings n m i j = sum_by (λ s. m i j s + m j i s) (first_half n)

-- whether team i plays a team in slot s that it doesn't meet just once in the first half
abbrev pub is_misphased : ℕ → Counts → ℕ → ℕ → Bool
is_misphased n m i s =
    list_any (λ j. nat_lt 0 (m i j s + m j i s) && isnt_one (early_meetings n m i j)) (teams_of n)

-- the mark of a cell, by whether there is a break, and whether a pair is in the wrong half
abbrev pub mark : Bool → Bool → List ℕ
mark true true = codes "%"
mark true false = codes "*"
mark false true = codes "!"
mark false false = codes " "
