-- A season of which the first k slots are played: schedules that keep the played games, and the rows that ask for it.
-- Played games and schedules are given by their counts, so a game that is listed twice is kept once.
use Rattle.std.specs.Prelude.{◌≡◌, ℕ, ◌+◌, ◌*◌, ◌-◌, ◌<◌, Bool, nat_lt, List, [], ◌∷◌, ◌++◌, map}
use Rattle.std.specs.List.{flat_map, range_with_len}
use Rattle.league.specs.Counts.{Counts}
use Rattle.league.specs.Instance.{Instance}
use Rattle.league.specs.Meetings.{meetings_of}
use Rattle.rows.specs.Cardinality.{at_least}
use Rattle.rows.specs.Literals.{Literal}
use Rattle.rows.specs.Rows.{Row}
use Rattle.encoding.specs.Encoding.{encoding_size, rows_of}
use Rattle.encoding.specs.Variables.{x_var}

-- whether the game takes place at all
abbrev pub is_played : Counts → ℕ → ℕ → ℕ → Bool
is_played m i j s = nat_lt 0 (m i j s)

-- in the slots below k the same games take place
abbrev pub Keeps : Counts → ℕ → Counts → Type 0
Keeps played k m = (i j s : ℕ) → s < k → is_played m i j s ≡ is_played played i j s

-- the literal that is true where the game of a meeting in a slot takes place exactly as it was played
abbrev pub kept_literal : ℕ → Counts → ℕ → ℕ × ℕ → Literal
kept_literal n played s p = record { var = x_var n p.0 p.1 s; positive = is_played played p.0 p.1 s }

-- the clause of this literal alone
abbrev pub kept_row : ℕ → Counts → ℕ → ℕ × ℕ → Row
kept_row n played s p = at_least 1 (kept_literal n played s p ∷ [])

-- the clauses of all meetings in a slot, by home team, then away team
abbrev pub kept_rows_in : ℕ → Counts → ℕ → List Row
kept_rows_in n played s = map (kept_row n played s) (meetings_of n)

-- the clauses of the first k slots, slot by slot
abbrev pub kept_rows : ℕ → Counts → ℕ → List Row
kept_rows n played k = flat_map (kept_rows_in n played) (range_with_len 0 k)

-- the rows of a league whose first k slots are played
abbrev pub resume_rows : Instance → Counts → ℕ → List Row
resume_rows league played k = rows_of league ++ kept_rows league.n played k

-- how many terms they have: one more for each meeting in each of these slots
abbrev pub resume_size : Instance → ℕ → ℕ
resume_size league k = encoding_size league + league.n * (league.n - 1) * k
