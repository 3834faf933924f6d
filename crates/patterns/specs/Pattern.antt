-- A home-away pattern (RobinX): where one team plays, slot by slot, and the breaks that it shows.
use Rattle.std.specs.Prelude.{ℕ, ◌-◌, ◌≤◌, Bool, true, false, IsTrue, List, length, slice_index_or}
use Rattle.std.specs.List.{All, count_by, range_with_len}
use Rattle.league.specs.Instance.{is_one_side}
use Rattle.league.specs.declared.class.Side.{Side}
use Rattle.league.specs.declared.class.Side.TheVariants.{H, A, Both}

-- a pattern has a letter, H or A, for each slot of a season: at most 78
pub record IsPattern (pattern : List Side) : Type 0 where
  pub at_most : length pattern ≤ 78
  pub letters : All (λ side. IsTrue (is_one_side side)) pattern

-- whether a letter is that of the slot before
abbrev pub is_repeat : Side → Side → Bool
is_repeat H H = true
is_repeat A A = true
is_repeat _ _ = false

-- whether a pattern has a break at place s, which isn't the first: the letter there is that of the place before
abbrev pub has_break : List Side → ℕ → Bool
has_break pattern s = is_repeat (slice_index_or pattern (s - 1) Both) (slice_index_or pattern s Both)

-- the breaks of a pattern, at its places after the first
abbrev pub breaks_in : List Side → ℕ
breaks_in pattern = count_by (has_break pattern) (range_with_len 1 (length pattern - 1))
