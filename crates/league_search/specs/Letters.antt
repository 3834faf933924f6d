-- The patterns that values of variables show.
use Rattle.std.specs.Prelude.{ℕ, ◌-◌, Bool, if◌then◌else◌, List, map}
use Rattle.std.specs.List.{range_with_len}
use Rattle.league.specs.Counts.{slot_count}
use Rattle.league.specs.declared.class.Side.{Side}
use Rattle.league.specs.declared.class.Side.TheVariants.{H, A}
use Rattle.rows.specs.Values.{assigned}
use Rattle.encoding.specs.Variables.{h_var}

-- values of variables that are so many lower
abbrev pub lowered : ℕ → List Bool → ℕ → Bool
lowered games values v = assigned values (v - games)

abbrev pub side_of : Bool → Side
side_of home = if home then H else A

-- the letters of team i in the first slots
abbrev pub letters_of : ℕ → (ℕ → Bool) → ℕ → ℕ → List Side
letters_of n values slots i = map (λ s. side_of (values (h_var n i s))) (range_with_len 0 slots)

-- the patterns of the first teams over the season
abbrev pub patterns_by : ℕ → (ℕ → Bool) → ℕ → List (List Side)
patterns_by n values teams = map (letters_of n values (slot_count n)) (range_with_len 0 teams)
