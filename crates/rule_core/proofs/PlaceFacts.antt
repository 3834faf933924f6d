-- Worked examples of tables of places with spare games: each was worked out by hand.
use Rattle.std.proofs.Common.{◌≡◌, ℕ, true, false, List, [], ◌∷◌, ◌++◌, map, refl, replicate}
use Rattle.league.specs.Venues.{away_games, home_games}
use Rattle.rule_core.specs.Opponents.{place_at}
use Rattle.rule_core.specs.Places.{hosts, visits}
use Rattle.rule_core.specs.Spare.{spare_counts, spare_place}
use Rattle.rule_core.specs.Tables.{kept_counts, listed}
use Rattle.rule_core.specs.declared.place.Place.{Place}
use Rattle.rule_core.specs.declared.place.Place.TheVariants.{Free, Home, Away}

-- Two teams have two slots. Team 0 is at home to team 1 in slot 0, and the places of slot 1 are free.
abbrev two_teams : List Place
two_teams = Home (record { 0 = 1 }) ∷ Free ∷ Away (record { 0 = 0 }) ∷ Free ∷ []

-- Twice team 1 is at home to team 0 in slot 0, for which no place is left: the 41st number of the list, its last.
abbrev turned_twice : List ℕ
turned_twice = replicate 40 0 ++ (2 ∷ [])

-- team 0 is at home to team 1, not to itself, and away at none; team 1 is away at team 0
pub hosts-each : map (hosts (place_at 2 two_teams 0 0)) (0 ∷ 1 ∷ []) ++ map (visits (place_at 2 two_teams 0 0))
    (0 ∷ 1 ∷ []) ≡ false ∷ true ∷ false ∷ false ∷ []
hosts-each = refl

pub visits-each : map (hosts (place_at 2 two_teams 1 0)) (0 ∷ 1 ∷ []) ++ map (visits (place_at 2 two_teams 1 0))
    (0 ∷ 1 ∷ []) ≡ false ∷ false ∷ true ∷ false ∷ []
visits-each = refl

-- with the two spare games, the counts are 1 and 2 in slot 0, and none in slot 1 and beyond
pub kept_counts-each : map (λ s. kept_counts 2 two_teams turned_twice 0 1 s) (0 ∷ 1 ∷ 2 ∷ []) ++ map
    (λ s. kept_counts 2 two_teams turned_twice 1 0 s) (0 ∷ 1 ∷ 2 ∷ []) ≡ 1 ∷ 0 ∷ 0 ∷ 2 ∷ 0 ∷ 0 ∷ []
kept_counts-each = refl

-- team 1 has two home games and an away game in slot 0
pub venues-each : home_games 2 (kept_counts 2 two_teams turned_twice) 1 0 ∷ away_games 2
    (kept_counts 2 two_teams turned_twice) 1 0 ∷ [] ≡ 2 ∷ 1 ∷ []
venues-each = refl

-- as one list: 0 with 0, 0 with 1, 1 with 0 and 1 with 1, two slots each
pub listed-each : listed 2 (kept_counts 2 two_teams turned_twice) ≡ 0 ∷ 0 ∷ 1 ∷ 0 ∷ 2 ∷ 0 ∷ 0 ∷ 0 ∷ []
listed-each = refl

-- games of an earlier slot come first, then those of an earlier home team, then those of an earlier away team
pub spare_place-each : spare_place 1 0 0 ∷ spare_place 1 39 0 ∷ spare_place 2 0 0 ∷ spare_place 0 1 1 ∷ []
    ≡ 40 ∷ 79 ∷ 80 ∷ 1601 ∷ []
spare_place-each = refl

-- the number of team 1 at home to team 0 isn't one of team 0 at home to a team 40, which there isn't, nor of slot 1
pub spare_counts-each : spare_counts turned_twice 1 0 0 ∷ spare_counts turned_twice 0 40 0
    ∷ spare_counts turned_twice 1 0 1 ∷ [] ≡ 2 ∷ 0 ∷ 0 ∷ []
spare_counts-each = refl
