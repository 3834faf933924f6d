-- Logs whose hints name pattern rows and earlier steps alone.
use Rattle.std.specs.Prelude.{◌≡◌, ℕ, suc, ◌-◌, ◌^◌, ◌<◌, ◌≤◌, List, [], ◌∷◌, ◌++◌, length, map, take, true}
use Rattle.std.specs.Prelude.{Ok, Option, Some, IfSome, IsSomeAnd}
use Rattle.std.specs.List.{All}
use Rattle.league.specs.Instance.{Instance}
use Rattle.rows.specs.Rows.{Row}
use Rattle.rows.specs.Partials.{IsEmpowering, IsQuiet}
use Rattle.rows.specs.declared.partial.Value.{Value}
use Rattle.encoding.specs.Encoding.{rows_of}
use Rattle.encoding.specs.Variables.{var_count, x_count}
use Rattle.refutation.specs.Following.{judged, row_numbered}
use Rattle.refutation.specs.Steps.{Step, clause_of, hints_of}
use Rattle.refutation.specs.Steps.Step.{Clause}
use Rattle.refutation.specs.Verdict.{verdict_of}
use Rattle.refutation.specs.declared.verdict.Verdict.TheVariants.{Accepted}
use Rattle.clause_search.specs.Kept.{MayKeep, step_at, steps_at}
use Rattle.clause_search.specs.News.{IsTidy, row_of}
use Rattle.decoding.specs.Excluded.{NoneAccepted}
use Rattle.league_search.specs.PatternRows.{is_pattern_row, pattern_rows, pattern_var_count}

-- each hint of the step is the number of one of these rows that speaks of no game
abbrev pub NamesPatternRows : ℕ → List Row → Step → Type 0
NamesPatternRows games rows step =
    All (λ hint. IsSomeAnd (row_numbered rows hint) (λ row. is_pattern_row games row ≡ true)) (hints_of step)

-- A clause step that follows from rows by those that speak of no game, and whose clause is empowering over these
-- patterns' rows.
pub record IsPatternNews (games vars : ℕ) (rows patterns : List Row) (step : Step) : Type 0 where
  pub follows : judged rows vars step ≡ Ok (row_of step)
  pub named : NamesPatternRows games rows step
  pub empowering : IsEmpowering patterns (clause_of step)

-- Each step is that over the rows with the steps before it behind them, and over the patterns' rows with those of these
-- steps that are kept then: where the step at place k comes, `keeps` says by places which are.
pub record ArePatternNews (games vars : ℕ) (rows patterns : List Row) (steps : List Step) : Type 0 where
  pub keeps : ℕ → List ℕ
  pub start : keeps 0 ≡ []
  pub next : (k : ℕ) → k < length steps → MayKeep (vars - games) (keeps k ++ k ∷ []) (keeps (suc k))
  pub news : (k : ℕ) → k < length steps →
      IsPatternNews games vars (rows ++ map row_of (take k steps)) (patterns ++ map row_of (steps_at steps (keeps k)))
      (step_at steps k)

-- the steps say more, one by one, than propagation over a league's pattern rows finds, and are numbered as behind all
-- rows of the league
abbrev pub TellOfPatterns : Instance → List Step → Type 0
TellOfPatterns league steps =
    ArePatternNews (x_count league.n) (var_count league) (rows_of league) (pattern_rows league) steps

-- A log that is accepted over all rows of the league, so that the league accepts no games, by hints that name its
-- pattern rows and earlier steps alone. At most as many steps as the limit come before its last.
pub record RefutesPatterns (league : Instance) (limit : Option ℕ) (steps : List Step) : Type 0 where
  pub accepted : verdict_of (rows_of league) (var_count league) steps ≡ Accepted
  pub none : NoneAccepted league
  pub before : List Step
  pub hints : List ℕ
  pub last : steps ≡ before ++ Clause [] hints ∷ []
  pub news : TellOfPatterns league before
  pub named : NamesPatternRows (x_count league.n) (rows_of league ++ map row_of before) (Clause [] hints)
  pub within : IfSome limit (λ most. length before ≤ most)
  pub tidy : All (IsTidy (var_count league)) steps

-- A log that is spent at the limit over the pattern rows: so many steps, behind which propagation over these rows and
-- the steps that are kept stands still. The limit is below 3 to the number of variables that aren't those of games.
pub record IsPatternSpent (league : Instance) (limit : Option ℕ) (steps : List Step) : Type 0 where
  pub limited : limit ≡ Some (length steps)
  pub news : TellOfPatterns league steps
  pub quiet : (values : ℕ → Value)
      × IsQuiet values (pattern_rows league ++ map row_of (steps_at steps (news.keeps (length steps))))
  pub few : length steps < 3 ^ pattern_var_count league
  pub tidy : All (IsTidy (var_count league)) steps
