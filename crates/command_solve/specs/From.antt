-- What `solve` answers where it begins at a season that is given.
use Rattle.std.specs.Prelude.{◌≡◌, ℕ, ◌≤◌, ◌⊎◌, List, length, codes}
use Rattle.robin_io.specs.Outside.{Store}
use Rattle.league.specs.Accepted.{IsAccepted, objective}
use Rattle.league.specs.Counts.{counts_of}
use Rattle.league.specs.Instance.{Instance}
use Rattle.league.specs.Structure.{IsRoundRobin}
use Rattle.league.specs.declared.game.Game.{Game}
use Rattle.robinx.specs.Pieces.{pieces}
use Rattle.robinx.specs.InstanceFile.{instance_of}
use Rattle.robinx.specs.SolutionFile.{solution_of}
use Rattle.robinx.specs.declared.instance.TheConstants.{INSTANCE_LIMIT, SOLUTION_LIMIT}
use Rattle.answers.specs.Reply.{Answer}
use Rattle.answers.specs.Stages.{◌>>=◌, Outcome, reads, says}
use Rattle.answers.specs.declared.status.Status.TheVariants.{No}
use Rattle.rows.specs.Rows.{Row}
use Rattle.encoding.specs.Limit.{most_terms}
use Rattle.encoding.specs.Encoding.{encoding_size}
use Rattle.robin_watch.specs.declared.budgets.Budgets.{Budgets}
use Rattle.command_check.specs.Check.{encodes}
use Rattle.command_check.specs.Validate.{IsJudgement, IsWellFormedPair}
use Rattle.command_solve.specs.Solve.{IsFoundBy, IsSchedule}

-- The season is no start: it isn't a double round robin of the league, in two phases where the league is phased. The
-- report of `validate` says what is wrong with it.
pub record IsNoStart (league : Instance) (start : List Game) (answer : Answer) : Type 0 where
  pub no_round_robin : IsRoundRobin league.n league.phased (counts_of start) → ⊥
  pub judgement : IsJudgement league start answer
  pub status : answer.status ≡ No

-- a season that the league accepts, and that costs at most so much, is written
pub record IsScheduleWithin (league : Instance) (moves : ℕ) (may_stop : Type 0) (most : ℕ) (answer : Answer)
    : Type 0 where
  pub schedule : IsSchedule league moves may_stop answer
  pub within : objective league (counts_of schedule.games) ≤ most

-- What is found from a start: what `solve` finds, and where the league accepts the start, a season that costs no more.
pub record IsFoundFrom (league : Instance) (start : List Game) (budgets : Budgets) (may_stop : Type 0) (rows : List Row)
    (answer : Answer) : Type 0 where
  pub found : IsFoundBy league budgets may_stop rows answer
  pub no_worse : IsAccepted league (counts_of start)
      → IsScheduleWithin league found.kept.moves may_stop (objective league (counts_of start)) answer

-- what is found from a season that is given, if it is a start and the league's rows aren't too many
abbrev pub IsBegun : Instance → Budgets → Type 0 → List Game → Outcome
IsBegun league budgets may_stop start answer =
    IsNoStart league start answer
    ⊎ (IsRoundRobin league.n league.phased (counts_of start)
    × encodes league (IsFoundFrom league start budgets may_stop) answer)

-- `solve` from a season, over what a store shows, by a run that may be stopped where `may_stop` says so
abbrev pub begun : Store → List ℕ → List ℕ → Budgets → Type 0 → Outcome
begun store instance solution budgets may_stop = do
  first ← reads store (codes "instance") instance INSTANCE_LIMIT 0
  league ← says (codes "instance") (instance_of (pieces first))
  second ← reads store (codes "solution") solution SOLUTION_LIMIT (length first)
  start ← says (codes "solution") (solution_of league.n (pieces second))
  IsBegun league budgets may_stop start

-- ---- a run

-- a well-formed pair of files that say a double round robin of a league whose rows aren't too many
pub record IsWellFormedStart
    (store : Store)
    (instance solution : List ℕ)
    (league : Instance)
    (start : List Game)
    : Type 0 where
  pub pair : IsWellFormedPair store instance solution league start
  pub round_robin : IsRoundRobin league.n league.phased (counts_of start)
  pub small : encoding_size league ≤ most_terms
