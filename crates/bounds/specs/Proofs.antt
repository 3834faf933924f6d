-- What is shown of a schedule that a league accepts, given by the counts m of its games: that none costs less, a
-- schedule that does, or a log that is spent. And what is shown so of a bound.
use Rattle.std.specs.Prelude.{◌≡◌, ◌⊎◌, ℕ, ◌-◌, ◌<◌, ◌≤◌, List, [], Option}
use Rattle.std.specs.List.{All}
use Rattle.league.specs.Accepted.{IsAccepted}
use Rattle.league.specs.Accepted as costs
use Rattle.league.specs.Counts.{Counts, counts_of}
use Rattle.league.specs.Instance.{Instance, IsGame}
use Rattle.league.specs.Order.{IsInOrder}
use Rattle.league.specs.declared.game.Game.{Game}
use Rattle.refutation.specs.Steps.{NamesRows, Step}
use Rattle.clause_search.specs.Answers.{IsSpentAt, Refutes}
use Rattle.descent.specs.Settled.{IsSettled}
use Rattle.solve.specs.Solutions.{league_score}
use Rattle.bound_rows.specs.BoundRows.{bound_rows, bound_vars}
use Rattle.bound_rows.specs.Faithful.{IsLowerBound}
use Rattle.bounds.specs.declared.proved.Proved.{Proved}
use Rattle.bounds.specs.declared.proved.Proved.TheVariants.{Least, Better, Spent}

-- The schedule's objective is the least: no accepted schedule has a lower one. If the objective is 0, the log is empty.
-- Else the log is accepted over the bound rows of one less than the objective. The log can be written.
pub record IsLeast (league : Instance) (m : Counts) (limit : Option ℕ) (objective : ℕ) (steps : List Step) : Type 0
  where
    pub cost : objective ≡ costs.objective league m
    pub least : IsLowerBound league objective
    pub nothing : objective ≡ 0 → steps ≡ []
    pub refutes : 1 ≤ objective → Refutes (bound_rows league (objective - 1)) (bound_vars league) limit steps
    pub named : All NamesRows steps

-- Games that the league accepts, in order, with their objective, which is below a bound.
pub record IsBelow (league : Instance) (bound : ℕ) (games : List Game) (objective : ℕ) : Type 0 where
  pub accepted : IsAccepted league (counts_of games)
  pub fit : All (IsGame league.n) games
  pub in_order : IsInOrder games
  pub cost : objective ≡ costs.objective league (counts_of games)
  pub lower : objective < bound

-- such games, which cost less than the schedule
abbrev pub IsBetter : Instance → Counts → List Game → ℕ → Type 0
IsBetter league m games objective = IsBelow league (costs.objective league m) games objective

-- The budget ran out. The schedule's objective is at least 1. No single legal move betters the schedule, where nothing
-- may stop the run. The log is spent at the limit over the bound rows of one less than this objective. The log can be
-- written.
pub record IsSpentBelow (league : Instance) (m : Counts) (limit : Option ℕ) (may_stop : Type 0) (steps : List Step)
    : Type 0 where
  pub some : 1 ≤ costs.objective league m
  pub settled : may_stop ⊎ IsSettled league.n league.phased (league_score league) m
  pub spent : IsSpentAt (bound_rows league (costs.objective league m - 1)) (bound_vars league) limit steps
  pub named : All NamesRows steps

-- what each answer says, if the search learns at most `limit` clauses, and `may_stop` says where the run may be stopped
abbrev pub IsProved : Instance → Counts → Option ℕ → Type 0 → Proved → Type 0
IsProved league m limit may_stop (Least objective log) = IsLeast league m limit objective log
IsProved league m limit may_stop (Better games objective) = IsBetter league m games objective
IsProved league m limit may_stop (Spent log) = IsSpentBelow league m limit may_stop log

-- what each answer says, if the search keeps to one of these limits
abbrev pub IsProvedBy : Instance → Counts → (Option ℕ → Type 0) → Type 0 → Proved → Type 0
IsProvedBy league m limits may_stop proved = (limit : Option ℕ) × limits limit × IsProved league m limit may_stop proved

-- ---- a search for a schedule that costs less than a bound

-- No accepted schedule costs less than the bound. If the bound is 0, the log is empty. Else the log is accepted over the
-- bound rows of one less. The log can be written.
pub record IsNoneBelow (league : Instance) (bound : ℕ) (limit : Option ℕ) (steps : List Step) : Type 0 where
  pub least : IsLowerBound league bound
  pub nothing : bound ≡ 0 → steps ≡ []
  pub refutes : 1 ≤ bound → Refutes (bound_rows league (bound - 1)) (bound_vars league) limit steps
  pub named : All NamesRows steps

-- The budget ran out. The bound is at least 1. The log is spent at the limit over the bound rows of one less. The log
-- can be written.
pub record IsSpentUnder (league : Instance) (bound : ℕ) (limit : Option ℕ) (steps : List Step) : Type 0 where
  pub some : 1 ≤ bound
  pub spent : IsSpentAt (bound_rows league (bound - 1)) (bound_vars league) limit steps
  pub named : All NamesRows steps

-- what each answer says of a bound, if the search learns at most `limit` clauses
abbrev pub IsSought : Instance → ℕ → Option ℕ → Proved → Type 0
IsSought league bound limit (Least objective log) = (objective ≡ bound) × IsNoneBelow league bound limit log
IsSought league bound limit (Better games objective) = IsBelow league bound games objective
IsSought league bound limit (Spent log) = IsSpentUnder league bound limit log

-- what each answer says of a bound, if the search keeps to one of these limits
abbrev pub IsSoughtBy : Instance → ℕ → (Option ℕ → Type 0) → Proved → Type 0
IsSoughtBy league bound limits proved = (limit : Option ℕ) × limits limit × IsSought league bound limit proved
