-- What is answered of a league's patterns.
use Rattle.std.specs.Prelude.{ℕ, Option}
use Rattle.robin_watch.specs.Limits.{IsKeptTo}
use Rattle.league.specs.Instance.{Instance}
use Rattle.league_search.specs.PatternLogs.{IsPatternSpent, RefutesPatterns}
use Rattle.league_search.specs.PatternSets.{IsPatternSet}
use Rattle.league_search.specs.declared.found.PatternFound.{PatternFound}
use Rattle.league_search.specs.declared.found.PatternFound.TheVariants.{Patterns, Refuted, Spent}

-- patterns that the pattern rows allow, a log that refutes them, or one that is spent
abbrev pub IsPatternAnswer : Instance → Option ℕ → PatternFound → Type 0
IsPatternAnswer league limit (Patterns patterns) = IsPatternSet league patterns
IsPatternAnswer league limit (Refuted log) = RefutesPatterns league limit log
IsPatternAnswer league limit (Spent log) = IsPatternSpent league limit log

-- an answer within the limit to which the search kept: the one that was set, or, where the search may be stopped, a
-- lower one
pub record IsPatternAnswerBy (league : Instance) (limit : Option ℕ) (may_stop : Type 0) (found : PatternFound)
    : Type 0 where
  pub kept : Option ℕ
  pub is_kept : IsKeptTo limit may_stop kept
  pub answer : IsPatternAnswer league kept found
