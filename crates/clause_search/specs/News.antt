-- When a log says more, step by step, than propagation finds.
use Rattle.std.specs.Prelude.{◌≡◌, ◌≢◌, ℕ, suc, ◌+◌, ◌^◌, ◌<◌, ◌≤◌, List, [], ◌∷◌, ◌++◌, length, map, take, Ok}
use Rattle.std.specs.List.{All, AllPairs}
use Rattle.rows.specs.Rows.{Row}
use Rattle.rows.specs.Partials.{IsEmpowering, IsQuiet}
use Rattle.rows.specs.declared.partial.Value.{Value}
use Rattle.refutation.specs.Steps.{Step, clause_of, hints_of}
use Rattle.refutation.specs.Following.{clause_row, judged}
use Rattle.clause_search.specs.Kept.{MayKeep, step_at, steps_at}

-- a clause step that follows from rows, and whose clause is empowering over those that are kept
pub record IsNews (rows kept : List Row) (vars : ℕ) (step : Step) : Type 0 where
  pub follows : judged rows vars step ≡ Ok (clause_row (clause_of step))
  pub empowering : IsEmpowering kept (clause_of step)

-- a step whose clause has each of these variables once at most, with at most one more hint than there are variables,
-- each from 1 on, as rows are numbered, and of 64 bits
pub record IsTidy (vars : ℕ) (step : Step) : Type 0 where
  pub variables : AllPairs (λ l m. l.var ≢ m.var) (clause_of step)
  pub from_one : All (λ l. 1 ≤ l.var) (clause_of step)
  pub known : All (λ l. l.var ≤ vars) (clause_of step)
  pub few : length (hints_of step) ≤ vars + 1
  pub named : All (λ hint. 1 ≤ hint) (hints_of step)
  pub small : All (λ hint. hint < 2 ^ 64) (hints_of step)

-- the row as which a clause step stands
abbrev pub row_of : Step → Row
row_of step = clause_row (clause_of step)

-- Each step follows from the rows and the steps before it, and is empowering over the rows and those of these steps that
-- are kept then. What is kept behind the last step, and where the step at place k comes, says `keeps` by the places.
pub record AreNews (rows : List Row) (vars : ℕ) (steps : List Step) : Type 0 where
  pub keeps : ℕ → List ℕ
  pub start : keeps 0 ≡ []
  pub next : (k : ℕ) → k < length steps → MayKeep vars (keeps k ++ k ∷ []) (keeps (suc k))
  pub news : (k : ℕ) → k < length steps →
      IsNews (rows ++ map row_of (take k steps)) (rows ++ map row_of (steps_at steps (keeps k))) vars (step_at steps k)

-- the rows, and those of the steps that are kept behind the last one
abbrev pub kept_rows : (rows : List Row) (vars : ℕ) (steps : List Step) → AreNews rows vars steps → List Row
kept_rows rows vars steps news = rows ++ map row_of (steps_at steps (news.keeps (length steps)))

-- A log that is spent at a number: so many steps, each news, behind which propagation over what is kept stands still.
-- So what propagation alone refutes is spent at no number.
pub record IsSpent (limit : ℕ) (rows : List Row) (vars : ℕ) (steps : List Step) : Type 0 where
  pub count : length steps ≡ limit
  pub news : AreNews rows vars steps
  pub quiet : (values : ℕ → Value) × IsQuiet values (kept_rows rows vars steps news)
