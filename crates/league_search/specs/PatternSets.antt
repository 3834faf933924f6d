-- Patterns that a league's pattern rows allow.
use Rattle.std.specs.Prelude.{◌≡◌, ℕ, ◌-◌, ◌<◌, Bool, true, false, ◌&&◌, List, [], length, slice_index_or}
use Rattle.std.specs.List.{All}
use Rattle.league.specs.Counts.{slot_count}
use Rattle.league.specs.Instance.{Instance}
use Rattle.league.specs.declared.class.Side.{Side}
use Rattle.league.specs.declared.class.Side.TheVariants.{H, A, Both}
use Rattle.patterns.specs.Pattern.{IsPattern}
use Rattle.rows.specs.Rows.{SatisfiesAll}
use Rattle.encoding.specs.Variables.{ab_var, h_var, has_breaks, hb_var}
use Rattle.league_search.specs.PatternRows.{pattern_rows}

-- the letter of team i at slot s
abbrev pub letter_at : List (List Side) → ℕ → ℕ → Side
letter_at patterns i s = slice_index_or (slice_index_or patterns i []) s Both

abbrev pub is_home : Side → Bool
is_home H = true
is_home A = false
is_home Both = false

abbrev pub is_away : Side → Bool
is_away H = false
is_away A = true
is_away Both = false

-- Values of variables say what patterns say: h(i,s) is true where team i has the letter H at slot s, and, where breaks
-- have variables, hb(i,s) and ab(i,s) where it has H, or A, at slot s and at the slot before.
pub record SayPatterns (n : ℕ) (breaks : Bool) (patterns : List (List Side)) (values : ℕ → Bool) : Type 0 where
  pub venues : (i s : ℕ) → i < n → s < slot_count n → values (h_var n i s) ≡ is_home (letter_at patterns i s)
  pub home_breaks : breaks ≡ true → (i s : ℕ) → i < n → 0 < s → s < slot_count n →
      values (hb_var n i s) ≡ (is_home (letter_at patterns i (s - 1)) && is_home (letter_at patterns i s))
  pub away_breaks : breaks ≡ true → (i s : ℕ) → i < n → 0 < s → s < slot_count n →
      values (ab_var n i s) ≡ (is_away (letter_at patterns i (s - 1)) && is_away (letter_at patterns i s))

-- a pattern for each team, with a letter for each slot of the season; values that say what they say, which leave only
-- games open, satisfy every pattern row
pub record IsPatternSet (league : Instance) (patterns : List (List Side)) : Type 0 where
  pub teams : length patterns ≡ league.n
  pub slots : All (λ pattern. length pattern ≡ slot_count league.n) patterns
  pub letters : All IsPattern patterns
  pub values : ℕ → Bool
  pub say : SayPatterns league.n (has_breaks league.constraints) patterns values
  pub met : SatisfiesAll values (pattern_rows league)
