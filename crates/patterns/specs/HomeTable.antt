-- The patterns that a table of home games shows.
use Rattle.std.specs.Prelude.{ℕ, List, map}
use Rattle.std.specs.List.{range_with_len}
use Rattle.league.specs.Grid.{entry}
use Rattle.league.specs.declared.class.Side.{Side}
use Rattle.patterns.specs.PatternSet.{side_with}

-- the pattern of team i in the first k slots, by the table of the teams' home games in each slot
abbrev pub table_pattern : ℕ → List ℕ → ℕ → List Side
table_pattern k table i = map (λ s. side_with (entry table i s)) (range_with_len 0 k)
