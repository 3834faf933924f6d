-- What `trial` writes of the league that it makes: seven lines, and behind them what `solve` writes of a schedule.
use Rattle.std.specs.Prelude.{◌≡◌, ℕ, ◌++◌, Bool, if◌then◌else◌, List, length, Some, codes, decimal}
use Rattle.league.specs.Accepted.{objective}
use Rattle.league.specs.Counts.{counts_of}
use Rattle.league.specs.Instance.{Instance}
use Rattle.league.specs.declared.game.Game.{Game}
use Rattle.answers.specs.Reply.{Answer}
use Rattle.answers.specs.Stages.{Outcome}
use Rattle.answers.specs.declared.status.Status.TheVariants.{Yes}
use Rattle.robin_watch.specs.Limits.{IsKeptTo}
use Rattle.robin_watch.specs.declared.budgets.Budgets.{Budgets}
use Rattle.descent.specs.Descended.{Descended}
use Rattle.command_check.specs.Check.{encodes}
use Rattle.instance_gen.specs.Draws.{seeded}
use Rattle.instance_gen.specs.Made.{made_league}
use Rattle.command_solve.specs.Solve.{IsSchedule}

-- ---- what is found

-- the lines on the league: its numbers, and how many constraints it has
abbrev pub league_lines : (n seed constraints : ℕ) → List ℕ
league_lines n seed constraints =
    codes "trial " ++ (decimal n ++ (codes " " ++ (decimal seed
    ++ (codes "\nconstraints " ++ (decimal constraints ++ codes "\n")))))

-- the lines on the schedule: what it costs, what the first one of its descent costs, how many moves that made, and
-- whether its end is settled
abbrev pub found_lines : (objective first moves : ℕ) (settled : Bool) → List ℕ
found_lines objective first moves settled =
    codes "result schedule\nobjective " ++ (decimal objective
    ++ (codes "\nfirst " ++ (decimal first
    ++ (codes "\nmoves " ++ (decimal moves
    ++ (if settled then codes "\nsettled yes\n" else codes "\nsettled no\n"))))))

-- the seven lines
abbrev pub summary : ℕ → ℕ → Instance → List Game → Descended → List ℕ
summary n seed league games descent =
    league_lines n seed (length league.constraints)
    ++ found_lines (objective league (counts_of games)) (objective league (counts_of descent.first))
    (length descent.trail) descent.settled

-- A schedule of the league is found, which its summary calls that of n teams and a seed: the summary is written, and
-- behind it what `solve` writes, which reads back as the schedule's games.
pub record IsTrial (n seed : ℕ) (league : Instance) (moves : ℕ) (may_stop : Type 0) (answer : Answer) : Type 0 where
  pub solved : Answer
  pub schedule : IsSchedule league moves may_stop solved
  pub status : answer.status ≡ Yes
  pub text : answer.text ≡ summary n seed league schedule.games schedule.descent ++ solved.text

-- That, with as many moves as the run kept to: as many as were set, or, where it may be stopped, fewer.
pub record IsTrialBy (n seed : ℕ) (league : Instance) (moves : ℕ) (may_stop : Type 0) (answer : Answer)
    : Type 0 where
  pub kept : ℕ
  pub is_kept : IsKeptTo (Some moves) may_stop (Some kept)
  pub is_trial : IsTrial n seed league kept may_stop answer

-- ---- stages

-- `trial`, by a run that may be stopped where `may_stop` says so: a schedule is found of the made league, unless its rows
-- have too many terms
abbrev pub tried : ℕ → ℕ → Budgets → Type 0 → Outcome
tried n seed budgets may_stop =
    encodes (made_league n (seeded seed))
    (λ rows. IsTrialBy n seed (made_league n (seeded seed)) budgets.moves may_stop)
