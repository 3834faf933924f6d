-- What a season lacks of a double round robin, in words.
use Rattle.std.specs.Prelude.{ℕ, ◌-◌, Bool, true, not, ◌&&◌, ◌||◌, ◌==◌, nat_lt, if◌then◌else◌, List, [], ◌∷◌, ◌++◌, length}
use Rattle.std.specs.Prelude.{codes, decimal}
use Rattle.std.specs.List.{filter, flat_map}
use Rattle.league.specs.Counts.{slots_of, teams_of}
use Rattle.league.specs.declared.game.Game.{Game}
use Rattle.league.specs.declared.wrongs.Wrongs.{Wrongs}
use Rattle.season_misses.specs.Phrases.{name_of}
use Rattle.season_misses.specs.Games.{games_text}
use Rattle.season_misses.specs.Misses.{cut_lines}
use Rattle.season_misses.specs.declared.structure.Lack.{Lack}
use Rattle.season_misses.specs.declared.structure.Lack.TheVariants.{Meeting, Cell, Early}

-- the games of team i at home to team j, those of team i in slot j, and those of the two teams in the first half
abbrev pub is_of : Lack → ℕ → ℕ → ℕ → Game → Bool
is_of Meeting n i j g = (g.home.0 == i) && (g.away.0 == j)
is_of Cell n i s g = ((g.home.0 == i) || (g.away.0 == i)) && (g.slot.0 == s)
is_of Early n i j g =
    (((g.home.0 == i) && (g.away.0 == j)) || ((g.home.0 == j) && (g.away.0 == i))) && nat_lt g.slot.0 (n - 1)

-- whether there is to be one such game
abbrev pub is_wanted : Lack → ℕ → ℕ → Bool
is_wanted Meeting i j = not (i == j)
is_wanted Cell i s = true
is_wanted Early i j = nat_lt i j

-- which game is to be there
abbrev pub place_text : Lack → List (List ℕ) → ℕ → ℕ → List ℕ
place_text Meeting names i j = name_of names i ++ (codes " at home to " ++ name_of names j)
place_text Cell names i s = name_of names i ++ (codes " in slot " ++ decimal s)
place_text Early names i j = name_of names i ++ (codes " and " ++ (name_of names j ++ codes " in the first half"))

-- how often: `times`, or `games`
abbrev pub unit_text : Lack → List ℕ
unit_text Meeting = codes " times, "
unit_text _ = codes " games, "

-- how many games there are, which aren't one
abbrev pub found_text : Lack → List (List ℕ) → List Game → List ℕ
found_text lack names [] = codes "no game"
found_text lack names (g ∷ games) =
    decimal (length (g ∷ games)) ++ (unit_text lack ++ games_text names (g ∷ games))

-- the line, where there isn't one such game
abbrev pub line_unless_one : Lack → List (List ℕ) → ℕ → ℕ → List Game → List (List ℕ)
line_unless_one lack names i j found =
    if length found == 1 then []
    else (place_text lack names i j ++ (codes ": " ++ found_text lack names found)) ∷ []

abbrev pub lack_at : Lack → ℕ → List (List ℕ) → List Game → ℕ → ℕ → List (List ℕ)
lack_at lack n names games i j =
    if is_wanted lack i j then line_unless_one lack names i j (filter (is_of lack n i j) games) else []

-- the lines of some teams, with other teams or with slots
abbrev pub lacks_at : Lack → ℕ → List (List ℕ) → List Game → List ℕ → List ℕ → List (List ℕ)
lacks_at lack n names games firsts seconds =
    flat_map (λ i. flat_map (lack_at lack n names games i) seconds) firsts

-- all of them: by home team and away team, by team and slot, and, in a phased league, by two teams
abbrev pub lacks : ℕ → Bool → List (List ℕ) → List Game → List (List ℕ)
lacks n phased names games =
    lacks_at Meeting n names games (teams_of n) (teams_of n)
    ++ (lacks_at Cell n names games (teams_of n) (slots_of n)
    ++ (if phased then lacks_at Early n names games (teams_of n) (teams_of n) else []))

-- whether nothing is wrong
abbrev pub is_whole : Wrongs → Bool
is_whole wrongs = (wrongs.pairs_wrong == 0) && (wrongs.cells_wrong == 0) && (wrongs.phases_wrong == 0)

-- what these games lack, `most` lines of it, and an empty line; nothing of a double round robin
abbrev pub lacks_text : ℕ → Bool → List (List ℕ) → ℕ → List Game → Wrongs → List ℕ
lacks_text n phased names most games wrongs =
    if is_whole wrongs then []
    else codes "no double round robin:\n"
    ++ (cut_lines (codes "  ") (codes " more") most (lacks n phased names games) ++ codes "\n")
