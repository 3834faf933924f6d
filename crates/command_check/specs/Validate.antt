-- What `validate` answers: its stages in their order, and the judgement of a schedule.
use Rattle.std.specs.Prelude.{◌≡◌, ℕ, ◌≤◌, ◌↔◌, Bool, if◌then◌else◌, List, length, codes, IsTrue, Some, Ok}
use Rattle.robin_io.specs.Outside.{Store}
use Rattle.robinx.specs.Pieces.{pieces}
use Rattle.league.specs.Accepted.{IsAccepted}
use Rattle.league.specs.Counts.{counts_of}
use Rattle.league.specs.Instance.{Instance}
use Rattle.league.specs.declared.game.Game.{Game}
use Rattle.robinx.specs.InstanceFile.{instance_of}
use Rattle.robinx.specs.SolutionFile.{solution_of}
use Rattle.robinx.specs.declared.instance.TheConstants.{INSTANCE_LIMIT, SOLUTION_LIMIT}
use Rattle.answers.specs.Reply.{Answer}
use Rattle.answers.specs.Stages.{◌>>=◌, Outcome, reads, says}
use Rattle.answers.specs.declared.status.Status.TheVariants.{Yes, No}
use Rattle.command_check.specs.Report.{report_text}

-- the judgement of a schedule: feasible exactly if it is accepted
pub record IsJudgement (league : Instance) (games : List Game) (answer : Answer) : Type 0 where
  pub feasible : Bool
  pub accepted : IsTrue feasible ↔ IsAccepted league (counts_of games)
  pub status : answer.status ≡ (if feasible then Yes else No)
  pub text : answer.text ≡ report_text league games feasible

-- `validate`, over what a store shows
abbrev pub validated : Store → List ℕ → List ℕ → Outcome
validated store instance solution = do
  first ← reads store (codes "instance") instance INSTANCE_LIMIT 0
  league ← says (codes "instance") (instance_of (pieces first))
  second ← reads store (codes "solution") solution SOLUTION_LIMIT (length first)
  games ← says (codes "solution") (solution_of league.n (pieces second))
  IsJudgement league games

-- two files within their limits whose bytes are known, which say a league and a schedule
pub record IsWellFormedPair
    (store : Store)
    (instance solution : List ℕ)
    (league : Instance)
    (games : List Game)
    : Type 0 where
  pub first : List ℕ
  pub second : List ℕ
  pub first_known : store.contents instance ≡ Some first
  pub second_known : store.contents solution ≡ Some second
  pub first_within : length first ≤ INSTANCE_LIMIT
  pub second_within : length second ≤ SOLUTION_LIMIT
  pub says_league : instance_of (pieces first) ≡ Ok league
  pub says_games : solution_of league.n (pieces second) ≡ Ok games
