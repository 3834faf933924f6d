-- What a search over a league's rows, and rows that sums give behind them, answers of the league.
use Rattle.std.specs.Prelude.{◌≡◌, ℕ, false, List, [], length, Option}
use Rattle.std.specs.List.{All}
use Rattle.league.specs.Instance.{Instance}
use Rattle.robin_watch.specs.Limits.{IsKeptTo}
use Rattle.rows.specs.Rows.{SatisfiesAll}
use Rattle.rows.specs.Values.{assigned}
use Rattle.encoding.specs.Encoding.{rows_of}
use Rattle.encoding.specs.Variables.{has_breaks, var_count}
use Rattle.refutation.specs.Steps.{NamesRows, Step}
use Rattle.refutation.specs.Verdict.{verdict_of}
use Rattle.refutation.specs.Writable.{HasShortLines}
use Rattle.refutation.specs.declared.verdict.Verdict.TheVariants.{Accepted}
use Rattle.clause_search.specs.Answers.{IsSpentAt, Refutes}
use Rattle.clause_search.specs.declared.found.Found.{Found}
use Rattle.clause_search.specs.declared.found.Found.TheVariants.{Sat, Refuted, Spent}
use Rattle.league_search.specs.Sums.{IsBehind}

-- A log whose text can be written and read back: each hint names a row, and no line passes the limit of a line.
pub record IsWritable (steps : List Step) : Type 0 where
  pub named : All NamesRows steps
  pub short : HasShortLines steps

-- a log over a league's rows that may begin with sums; where no hard constraint bounds breaks there is none
pub record IsLeagueLog (league : Instance) (steps : List Step) : Type 0 where
  pub behind : IsBehind (rows_of league) (var_count league) steps
  pub none : has_breaks league.constraints ≡ false → behind.sums ≡ []
  pub writable : IsWritable steps

-- a log that is accepted over the league's rows, and whose search refutes them within the limit
pub record RefutesBehind (league : Instance) (limit : Option ℕ) (steps : List Step) : Type 0 where
  pub accepted : verdict_of (rows_of league) (var_count league) steps ≡ Accepted
  pub log : IsLeagueLog league steps
  pub refutes : Refutes log.behind.more (var_count league) limit log.behind.search

-- A log whose search is spent at the limit, which is below 3 to the number of variables: each of its steps is news over
-- the rows and the sums' rows.
pub record IsSpentOn (league : Instance) (limit : Option ℕ) (steps : List Step) : Type 0 where
  pub log : IsLeagueLog league steps
  pub spent : IsSpentAt log.behind.more (var_count league) limit log.behind.search

-- values that satisfy every row of the league, a log that refutes them, or one that is spent
abbrev pub IsLeagueAnswer : Instance → Option ℕ → Found → Type 0
IsLeagueAnswer league limit (Sat values) =
    (length values ≡ var_count league) × SatisfiesAll (assigned values) (rows_of league)
IsLeagueAnswer league limit (Refuted log) = RefutesBehind league limit log
IsLeagueAnswer league limit (Spent log) = IsSpentOn league limit log

-- an answer within the limit to which the search kept: the one that was set, or, where the search may be stopped, a
-- lower one
pub record IsLeagueAnswerBy (league : Instance) (limit : Option ℕ) (may_stop : Type 0) (found : Found) : Type 0 where
  pub kept : Option ℕ
  pub is_kept : IsKeptTo limit may_stop kept
  pub answer : IsLeagueAnswer league kept found
