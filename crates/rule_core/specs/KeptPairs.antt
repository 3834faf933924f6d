-- What is kept of the pairs of teams.
use Rattle.std.specs.Prelude.{◌≡◌, ℕ, zero, suc, ◌+◌, ◌-◌, ◌≤◌, List, [], ◌∷◌, length}
use Rattle.std.specs.Ordering.{nat_cmp}
use Rattle.league.specs.Meetings.{pairs_of}
use Rattle.league.specs.Sets.{IsAscending}

-- an ascending list of teams, with their pairs in order
pub record ArePairs (teams : List ℕ) (pairs : List (ℕ × ℕ)) : Type 0 where
  pub ascending : IsAscending nat_cmp teams
  pub few : length teams ≤ 78
  pub listed : pairs ≡ pairs_of teams

-- the key of the first pair of the team at place i with a later one: each earlier team has a pair with each later one
-- before
abbrev pub first_key : List ℕ → ℕ → ℕ
first_key teams zero = 0
first_key [] (suc i) = 0
first_key (t ∷ teams) (suc i) = length teams + first_key teams i

-- the key of the teams at place i and at a later place j
abbrev pub key_at : List ℕ → ℕ → ℕ → ℕ
key_at teams i j = first_key teams i + (j - i - 1)
