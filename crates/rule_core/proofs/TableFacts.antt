-- Worked examples of tables of counts and of listed meetings: each was worked out by hand.
use Rattle.std.proofs.Common.{◌≡◌, ℕ, ◌+◌, true, false, [], ◌∷◌, ◌++◌, map, refl}
use Rattle.league.specs.Venues.{away_games, home_games}
use Rattle.league.specs.Grid.{number}
use Rattle.rule_core.specs.Meetings.{is_listed}
use Rattle.rule_core.specs.Table.{Table, table_counts}

-- Two teams have two slots, so a row of two counts for each home team and away team: 0 with 0, 0 with 1, 1 with 0 and 1
-- with 1. Team 0 is at home to 1 three times in slot 0 and once in slot 1, team 1 at home to 0 five times in slot 1.
abbrev two_teams : Table
two_teams = record { n = 2; list = 0 ∷ 0 ∷ 3 ∷ 1 ∷ 0 ∷ 5 ∷ 0 ∷ 0 ∷ [] }

pub table_counts-inside : map (λ s. table_counts two_teams 0 1 s) (0 ∷ 1 ∷ []) ++ map (λ s. table_counts two_teams 1 0 s) (0 ∷ 1 ∷ []) ≡ 3 ∷ 1 ∷ 0 ∷ 5 ∷ []
table_counts-inside = refl

-- there is no slot 2 and no slot 3: the list goes on with the next row, here 0 and 5, which aren't games of 0 with 1
pub table_counts-no_slot : map (λ s. table_counts two_teams 0 1 s) (2 ∷ 3 ∷ []) ≡ 0 ∷ 0 ∷ []
table_counts-no_slot = refl

-- there is no team 2, whose row at home to 0 would be past the end, and whose row away to 0 would be that of 1 at home
-- to 0
pub table_counts-no_team : table_counts two_teams 2 0 1 + table_counts two_teams 0 2 1 ≡ 0
table_counts-no_team = refl

-- team 1 is away in slot 0 three times, and in slot 1 once, and at home five times
pub home_games-of_table : map (home_games 2 (table_counts two_teams) 1) (0 ∷ 1 ∷ []) ++ map (away_games 2 (table_counts two_teams) 1) (0 ∷ 1 ∷ []) ≡ 0 ∷ 5 ∷ 3 ∷ 1 ∷ []
home_games-of_table = refl

-- rows of three: the second number of the second row is the fifth of the list; a fourth column there isn't
pub number-second_row : number 3 (10 ∷ 11 ∷ 12 ∷ 20 ∷ 21 ∷ 22 ∷ []) 1 1 ≡ 21
number-second_row = refl

pub number-no_column : number 3 (10 ∷ 11 ∷ 12 ∷ 20 ∷ 21 ∷ 22 ∷ []) 0 3 ≡ 0
number-no_column = refl

-- a meeting is listed with its home team first: neither turned, nor made of the home team of one and the away team of
-- another
pub is_listed-each : map (λ (p : ℕ × ℕ). is_listed ((0, 1) ∷ (2, 3) ∷ []) p.0 p.1) ((0, 1) ∷ (2, 3) ∷ (1, 0) ∷ (0, 3) ∷ []) ≡ true ∷ true ∷ false ∷ false ∷ []
is_listed-each = refl
