-- The log of venue counts: the rows of some slots and of the teams that are bounded there, added up, and then the empty
-- clause.
use Rattle.std.specs.Prelude.{◌≡◌, ℕ, ◌+◌, ◌-◌, ◌/◌, Bool, true, not, nat_lt, List, [], ◌∷◌, ◌++◌, length, map, Some}
use Rattle.std.specs.List.{All, filter}
use Rattle.league.specs.Counts.{teams_of}
use Rattle.league.specs.Instance.{Instance}
use Rattle.league.specs.declared.class.Side.{Side}
use Rattle.league.specs.declared.class.Side.TheVariants.{H, A}
use Rattle.rows.specs.Cardinality.{at_least}
use Rattle.rows.specs.Rows.{Row}
use Rattle.rows.specs.Sums.{literal}
use Rattle.encoding.specs.Encoding.{rows_of}
use Rattle.encoding.specs.Variables.{h_var, var_count}
use Rattle.refutation.specs.Following.{row_numbered}
use Rattle.refutation.specs.Steps.{NamesRows, Step}
use Rattle.refutation.specs.Steps.Step.{Clause, Linear}
use Rattle.refutation.specs.Verdict.{verdict_of}
use Rattle.refutation.specs.Writable.{HasShortLines}
use Rattle.refutation.specs.declared.step.Part.{Part}
use Rattle.refutation.specs.declared.verdict.Verdict.TheVariants.{Accepted}
use Rattle.venue_counts.specs.VenueCounts.{bound_of, floor_of, is_crowded_at, is_short_at, is_side}

-- ---- the rows that are added up

-- in a slot at least half of the teams play at home, or away
abbrev pub slot_row : ℕ → Bool → ℕ → Row
slot_row n home s = at_least (n / 2) (map (λ i. literal (h_var n i s) home) (teams_of n))

-- in some slots team i plays at home, or away, at least so often
abbrev pub venue_row : ℕ → Bool → ℕ → List ℕ → ℕ → Row
venue_row n home i slots games = at_least games (map (λ s. literal (h_var n i s) home) slots)

-- at the other venue it plays as often as it needs
abbrev pub team_row : ℕ → Bool → List ℕ → (ℕ → ℕ) → ℕ → Row
team_row n home slots need i = venue_row n (not home) i slots (need i)

-- the row of each slot, and that of each team that has to play at the other venue
abbrev pub counted_rows : ℕ → Bool → List ℕ → (ℕ → ℕ) → List Row
counted_rows n home slots need =
    map (slot_row n home) slots
    ++ map (team_row n home slots need) (filter (λ i. nat_lt 0 (need i)) (teams_of n))

-- ---- the log

-- the parts name these rows in turn, each once
pub record AreNamed (rows : List Row) (parts : List Part) (named : List Row) : Type 0 where
  pub numbers : map (λ part. row_numbered rows part.row) parts ≡ map (λ row. Some row) named
  pub once : All (λ part. part.factor ≡ 1) parts

-- two steps: the sum of these rows, and the empty clause, which follows from the sum
pub record AddsUp (rows : List Row) (named : List Row) (log : List Step) : Type 0 where
  pub parts : List Part
  pub are_named : AreNamed rows parts named
  pub steps : log ≡ Linear parts 1 ∷ Clause [] ((length rows + 1) ∷ []) ∷ []

-- a side and slots at which too few games are allowed: a team with a bound plays in all other slots on the other side
pub record IsShortCount (league : Instance) (log : List Step) : Type 0 where
  pub side : Side
  pub slots : List ℕ
  pub short : is_short_at league.n league.constraints side slots ≡ true
  pub adds_up : AddsUp (rows_of league)
      (counted_rows league.n (is_side side H) slots
      (λ i. length slots - bound_of league.constraints side slots i))
      log

-- a side and slots in which too many games are asked for
pub record IsCrowdedCount (league : Instance) (log : List Step) : Type 0 where
  pub side : Side
  pub slots : List ℕ
  pub crowded : is_crowded_at league.n league.constraints side slots ≡ true
  pub adds_up : AddsUp (rows_of league)
      (counted_rows league.n (is_side side A) slots (floor_of league.constraints side slots))
      log

-- a log that is accepted over a league's rows, and whose text can be written and read back
pub record IsRefuting (league : Instance) (log : List Step) : Type 0 where
  pub accepted : verdict_of (rows_of league) (var_count league) log ≡ Accepted
  pub named : All NamesRows log
  pub short_lines : HasShortLines log
