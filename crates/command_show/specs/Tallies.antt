-- What is counted of a team over a season.
use Rattle.std.specs.Prelude.{ℕ, ◌-◌, max, Bool, nat_lt, List, [], ◌∷◌}
use Rattle.std.specs.List.{prefix_len, range_with_len, sum_by}
use Rattle.league.specs.Breaks.{breaks_among}
use Rattle.league.specs.Counts.{Counts, slots_of}
use Rattle.league.specs.Venues.{home_games, away_games}
use Rattle.league.specs.declared.class.Side.TheVariants.{Both}

-- the slots of the second half
abbrev pub second_half : ℕ → List ℕ
second_half n = range_with_len (n - 1) (n - 1)

-- the home games of team i in some slots
abbrev pub home_among : ℕ → Counts → ℕ → List ℕ → ℕ
home_among n m i slots = sum_by (home_games n m i) slots

-- the longest run of items that pass a test
abbrev pub longest_run : (ℕ → Bool) → List ℕ → ℕ
longest_run test [] = 0
longest_run test (s ∷ slots) = max (prefix_len test (s ∷ slots)) (longest_run test slots)

-- the breaks of team i, at home and away
abbrev pub breaks_in_all : ℕ → Counts → ℕ → ℕ
breaks_in_all n m i = breaks_among n m Both (slots_of n) i

-- the most slots in a row with a home game of team i, and with an away game
abbrev pub home_run : ℕ → Counts → ℕ → ℕ
home_run n m i = longest_run (λ s. nat_lt 0 (home_games n m i s)) (slots_of n)

abbrev pub away_run : ℕ → Counts → ℕ → ℕ
away_run n m i = longest_run (λ s. nat_lt 0 (away_games n m i s)) (slots_of n)
