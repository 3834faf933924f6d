-- What is found of a league: a schedule, a log that refutes its rows, or one that is spent, with what is known of the
-- league's patterns.
use Rattle.std.specs.Prelude.{◌≡◌, ◌⊎◌, ℕ, ◌≤◌, true, false, List, length, Some}
use Rattle.std.specs.List.{All}
use Rattle.robin_watch.specs.declared.budgets.Budgets.{Budgets}
use Rattle.league.specs.Accepted.{IsAccepted}
use Rattle.league.specs.Accepted as costs
use Rattle.league.specs.Counts.{Counts, counts_of}
use Rattle.league.specs.Instance.{Instance, IsGame}
use Rattle.league.specs.Order.{IsInOrder}
use Rattle.league.specs.declared.game.Game.{Game}
use Rattle.encoding.specs.Encoding.{rows_of}
use Rattle.encoding.specs.Variables.{var_count}
use Rattle.refutation.specs.Steps.{Step}
use Rattle.refutation.specs.Verdict.{verdict_of}
use Rattle.refutation.specs.declared.verdict.Verdict.TheVariants.{Accepted}
use Rattle.descent.specs.HardSum.{hard_sum}
use Rattle.descent.specs.Descended.{Descended}
use Rattle.descent.specs.Settled.{IsSettled}
use Rattle.descent.specs.Trail.{IsTrail}
use Rattle.descent.specs.declared.score.Score.{Score}
use Rattle.league_search.specs.PatternLogs.{IsPatternSpent}
use Rattle.league_search.specs.PatternSets.{IsPatternSet}
use Rattle.league_search.specs.declared.found.PatternFound.{PatternFound}
use Rattle.league_search.specs.declared.found.PatternFound.TheVariants as found
use Rattle.decoding.specs.Excluded.{NoneAccepted}
pub use Rattle.league_search.specs.Answers.{IsSpentOn, IsWritable}
use Rattle.solve.specs.Kept.{AreKeptTo}
use Rattle.solve.specs.declared.solved.Solved.{Solved}
use Rattle.solve.specs.declared.solved.Solved.TheVariants.{Schedule, Refuted, Spent}

-- what a descent compares in a league: what the hard constraints cost, where a penalty of 0 counts as 1, and then the
-- objective
abbrev pub league_score : Instance → Counts → Score
league_score league m = record { infeasibility = hard_sum 1 league m; objective = costs.objective league m }

-- A descent of at most so many moves from accepted games to these. Where it is said to be settled, no legal move lowers
-- the score any more. Else it has as many moves as it may, the games cost something, and a move lowers the score,
-- unless the descent may be stopped.
pub record IsDescent (league : Instance) (moves : ℕ) (may_stop : Type 0) (games : List Game) (descent : Descended)
    : Type 0 where
  pub first : IsAccepted league (counts_of descent.first)
  pub fit : All (IsGame league.n) descent.first
  pub in_order : IsInOrder descent.first
  pub trail : IsTrail league.n league.phased (league_score league) (counts_of descent.first) descent.trail
      (counts_of games)
  pub few : length descent.trail ≤ moves
  pub settled : descent.settled ≡ true → IsSettled league.n league.phased (league_score league) (counts_of games)
  pub spent : descent.settled ≡ false → length descent.trail ≡ moves
  pub costly : descent.settled ≡ false → 1 ≤ costs.objective league (counts_of games)
  pub lowers : descent.settled ≡ false
      → may_stop ⊎ (IsSettled league.n league.phased (league_score league) (counts_of games) → ⊥)

-- games of the league that it accepts, in order, what they cost, and the descent that led to them
pub record IsSchedule (league : Instance) (moves : ℕ) (may_stop : Type 0) (games : List Game) (objective : ℕ)
    (descent : Descended) : Type 0 where
  pub accepted : IsAccepted league (counts_of games)
  pub fit : All (IsGame league.n) games
  pub in_order : IsInOrder games
  pub cost : objective ≡ costs.objective league (counts_of games)
  pub descends : IsDescent league moves may_stop games descent

-- a log that is accepted over the league's rows: so the league accepts no games
pub record RefutesLeague (league : Instance) (steps : List Step) : Type 0 where
  pub accepted : verdict_of (rows_of league) (var_count league) steps ≡ Accepted
  pub none : NoneAccepted league
  pub writable : IsWritable steps

-- What is known of the patterns of a league where it is neither solved nor refuted: patterns that satisfy its pattern
-- rows, or a log that is spent over these rows at the budget. A log that refutes them would refute the league.
abbrev pub LeavesOpen : Instance → ℕ → PatternFound → Type 0
LeavesOpen league most (found.Patterns patterns) = IsPatternSet league patterns
LeavesOpen league most (found.Refuted log) = ⊥
LeavesOpen league most (found.Spent log) = IsPatternSpent league (Some most) log

-- what each answer says of the league, where the search of a try learns at most so many clauses, its descent makes at
-- most so many moves and may be stopped where `may_stop` says so, and the search for patterns learns at most so many
-- clauses
abbrev pub IsSolution : Instance → Budgets → Type 0 → Solved → Type 0
IsSolution league budgets may_stop (Schedule games objective descent) =
    IsSchedule league budgets.moves may_stop games objective descent
IsSolution league budgets may_stop (Refuted log) = RefutesLeague league log
IsSolution league budgets may_stop (Spent log patterns) =
    IsSpentOn league budgets.conflicts log × LeavesOpen league budgets.patterns patterns

-- what an answer says of the league within the budgets to which the run kept
pub record IsSolutionBy (league : Instance) (budgets : Budgets) (may_stop : Type 0) (answer : Solved) : Type 0 where
  pub kept : Budgets
  pub are_kept : AreKeptTo budgets may_stop kept
  pub solution : IsSolution league kept may_stop answer

-- what an answer says of the league within some budgets, by a run that may have been stopped
abbrev pub IsSomeSolution : Instance → Solved → Type 0
IsSomeSolution league answer = (budgets : Budgets) × IsSolution league budgets (Unit {0}) answer

-- the answer is a schedule
abbrev pub HasSchedule : Solved → Type 0
HasSchedule (Schedule games objective descent) = Unit {0}
HasSchedule (Refuted log) = ⊥
HasSchedule (Spent log patterns) = ⊥

-- the answer is a log that refutes
abbrev pub IsRefuted : Solved → Type 0
IsRefuted (Schedule games objective descent) = ⊥
IsRefuted (Refuted log) = Unit {0}
IsRefuted (Spent log patterns) = ⊥

-- the answer is a log that is spent
abbrev pub IsOpen : Solved → Type 0
IsOpen (Schedule games objective descent) = ⊥
IsOpen (Refuted log) = ⊥
IsOpen (Spent log patterns) = Unit {0}

-- the answer is a log that refutes the league
abbrev pub RefutesBy : Instance → Solved → Type 0
RefutesBy league (Schedule games objective descent) = ⊥
RefutesBy league (Refuted log) = RefutesLeague league log
RefutesBy league (Spent log patterns) = ⊥

-- the answer is what is found, or where that is spent, a log that refutes the league
abbrev pub IsFoundOrRefuted : Instance → Solved → Solved → Type 0
IsFoundOrRefuted league found answer = (answer ≡ found) ⊎ (IsOpen found × RefutesBy league answer)

-- the answer is a schedule that costs at most so much
abbrev pub CostsAtMost : ℕ → Solved → Type 0
CostsAtMost most (Schedule games objective descent) = objective ≤ most
CostsAtMost most (Refuted log) = ⊥
CostsAtMost most (Spent log patterns) = ⊥
