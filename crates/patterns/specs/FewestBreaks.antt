-- The fewest breaks (de Werra): in a single round robin no two teams have one pattern, and all but two teams have a
-- break.
use Rattle.std.specs.Prelude.{◌≢◌, ℕ, ◌-◌, ◌<◌, ◌≤◌, List}
use Rattle.league.specs.Breaks.{all_breaks}
use Rattle.league.specs.Counts.{counts_of, teams_of}
use Rattle.league.specs.Instance.{IsTeamCount}
use Rattle.league.specs.Structure.{first_half}
use Rattle.league.specs.declared.game.Game.{Game}
use Rattle.circle_method.specs.SingleRoundRobin.{IsSingleRoundRobin}
use Rattle.patterns.specs.PatternSet.{pattern_in}

-- the law: of a single round robin of an even number of teams, from 2 to 40, no two teams have one pattern
abbrev pub DistinctPatterns : Type 0
DistinctPatterns = (n : ℕ) (games : List Game) → IsTeamCount n → IsSingleRoundRobin n games →
    (i j : ℕ) → i < j → j < n →
    pattern_in n (counts_of games) (first_half n) i ≢ pattern_in n (counts_of games) (first_half n) j

-- the law: a single round robin of an even number of teams, from 2 to 40, has at least n - 2 breaks
abbrev pub FewestBreaks : Type 0
FewestBreaks = (n : ℕ) (games : List Game) → IsTeamCount n → IsSingleRoundRobin n games →
    n - 2 ≤ all_breaks n (counts_of games) (teams_of n) (first_half n)
