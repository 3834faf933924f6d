-- What one try says of a league.
use Rattle.std.specs.Prelude.{ℕ, ◌≤◌, List, Option, None, Some}
use Rattle.robin_watch.specs.declared.budgets.Budgets.{Budgets}
use Rattle.robin_watch.specs.Limits.{IsKeptTo}
use Rattle.league.specs.Instance.{Instance}
use Rattle.refutation.specs.Steps.{Step}
use Rattle.league_search.specs.Answers.{RefutesBehind}
use Rattle.solve.specs.Kept.{AreKeptTo}
use Rattle.solve.specs.Solutions.{IsSchedule, IsSpentOn, RefutesLeague}
use Rattle.solve.specs.declared.lower.Season.{Season}
use Rattle.solve.specs.declared.tries.Tried.{Tried}
use Rattle.solve.specs.declared.tries.Tried.TheVariants.{Found, Refuted, Spent}

-- a schedule that the league accepts, and the descent of at most so many moves that led to it, which may be stopped
-- where `may_stop` says so
abbrev pub IsSeason : Instance → ℕ → Type 0 → Season → Type 0
IsSeason league moves may_stop season =
    IsSchedule league moves may_stop season.schedule season.objective season.descent

-- a schedule, and the descent that led to it, of at most as many moves as the run kept to
pub record IsSeasonBy (league : Instance) (moves : ℕ) (may_stop : Type 0) (season : Season) : Type 0 where
  pub kept : ℕ
  pub is_kept : IsKeptTo (Some moves) may_stop (Some kept)
  pub is_season : IsSeason league kept may_stop season

-- a log that refutes the league, and whose search has at most as many steps as the limit before its last
pub record RefutesWithin (league : Instance) (limit : Option ℕ) (steps : List Step) : Type 0 where
  pub refutes : RefutesLeague league steps
  pub search : RefutesBehind league limit steps

-- what a try comes to: an accepted schedule, a log that refutes the league within the limit of conflicts, or one that
-- is spent at it
abbrev pub IsTried : Instance → Budgets → Type 0 → Tried → Type 0
IsTried league budgets may_stop (Found season) = IsSeason league budgets.moves may_stop season
IsTried league budgets may_stop (Refuted log) = RefutesWithin league budgets.conflicts log
IsTried league budgets may_stop (Spent log) = IsSpentOn league budgets.conflicts log

-- what a try comes to within the budgets to which the run kept
pub record IsTriedBy (league : Instance) (budgets : Budgets) (may_stop : Type 0) (tried : Tried) : Type 0 where
  pub kept : Budgets
  pub are_kept : AreKeptTo budgets may_stop kept
  pub is_tried : IsTried league kept may_stop tried

-- a schedule is found that costs at most so much
abbrev pub FindsAtMost : ℕ → Option Season → Type 0
FindsAtMost most (Some season) = season.objective ≤ most
FindsAtMost most None = ⊥
