-- What a search answers.
use Rattle.std.specs.Prelude.{◌≡◌, ℕ, ◌^◌, ◌<◌, ◌≤◌, List, [], ◌∷◌, ◌++◌, length, Option, Some, IfSome}
use Rattle.std.specs.List.{All}
use Rattle.robin_watch.specs.Limits.{IsKeptTo}
use Rattle.rows.specs.Rows.{Row, SatisfiesAll}
use Rattle.rows.specs.Values.{assigned}
use Rattle.refutation.specs.Steps.{Step}
use Rattle.refutation.specs.Steps.Step.{Clause}
use Rattle.refutation.specs.Verdict.{verdict_of}
use Rattle.refutation.specs.declared.verdict.Verdict.TheVariants.{Accepted}
use Rattle.clause_search.specs.News.{AreNews, IsSpent, IsTidy}
use Rattle.clause_search.specs.declared.found.Found.{Found}
use Rattle.clause_search.specs.declared.found.Found.TheVariants.{Sat, Refuted, Spent}

-- A log that refutes the rows: it is accepted over them, each step but the last is news, at most as many steps as the
-- limit come before the last, and each is tidy.
pub record Refutes (rows : List Row) (vars : ℕ) (limit : Option ℕ) (steps : List Step) : Type 0 where
  pub accepted : verdict_of rows vars steps ≡ Accepted
  pub before : List Step
  pub hints : List ℕ
  pub last : steps ≡ before ++ Clause [] hints ∷ []
  pub news : AreNews rows vars before
  pub within : IfSome limit (λ most. length before ≤ most)
  pub tidy : All (IsTidy vars) steps

-- A log that is spent at the limit, which is below 3 to the number of variables.
pub record IsSpentAt (rows : List Row) (vars : ℕ) (limit : Option ℕ) (steps : List Step) : Type 0 where
  pub limited : limit ≡ Some (length steps)
  pub spent : IsSpent (length steps) rows vars steps
  pub few : length steps < 3 ^ vars
  pub tidy : All (IsTidy vars) steps

-- values that satisfy every row, a log that refutes the rows, or one that is spent
abbrev pub IsAnswer : List Row → ℕ → Option ℕ → Found → Type 0
IsAnswer rows vars limit (Sat values) = (length values ≡ vars) × SatisfiesAll (assigned values) rows
IsAnswer rows vars limit (Refuted log) = Refutes rows vars limit log
IsAnswer rows vars limit (Spent log) = IsSpentAt rows vars limit log

-- an answer within the limit to which the search kept: the one that was set, or, where the search may be stopped, a
-- lower one
pub record IsAnswerBy (rows : List Row) (vars : ℕ) (limit : Option ℕ) (may_stop : Type 0) (found : Found)
    : Type 0 where
  pub kept : Option ℕ
  pub is_kept : IsKeptTo limit may_stop kept
  pub answer : IsAnswer rows vars kept found

-- an answer within some limit
abbrev pub IsSomeAnswer : List Row → ℕ → Found → Type 0
IsSomeAnswer rows vars found = (limit : Option ℕ) × IsAnswer rows vars limit found
