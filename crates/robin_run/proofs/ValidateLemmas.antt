-- What `validate` promises is kept.
use Rattle.std.proofs.Common.{◌∷◌, [], ℕ, ◌+◌, List, length, codes}
use Rattle.robin_io.specs.Outside.{Store}
use Rattle.robinx.specs.Pieces.{pieces}
use Rattle.robinx.specs.InstanceFile.{instance_of}
use Rattle.robinx.specs.SolutionFile.{solution_of}
use Rattle.robinx.specs.declared.instance.TheConstants.{INSTANCE_LIMIT, SOLUTION_LIMIT}
use Rattle.league.specs.Instance.{Instance}
use Rattle.league.specs.declared.game.Game.{Game}
use Rattle.command_line.specs.Words.Command.{Validate}
use Rattle.answers.specs.Reply.{Answer}
use Rattle.answers.specs.Stages.{NoneFails, Outcome, says, takes}
use Rattle.answers.proofs.StageLemmas.{first-works, says-known, second-works, takes-known}
use Rattle.command_check.specs.Validate.{IsJudgement, IsWellFormedPair, validated}
use Rattle.robin_run.specs.Run.{Answered, Run}
use Rattle.robin_run.specs.Validate.{Validates}
use Rattle.robin_run.proofs.RunLemmas.{writes}

-- the stages behind the solution file, and behind the league
abbrev judged_from : Instance → List ℕ → Outcome
judged_from league second = says (codes "solution") (solution_of league.n (pieces second)) (IsJudgement league)

abbrev read_from : Store → List ℕ → List ℕ → Instance → Outcome
read_from store solution first league =
    takes (codes "solution") (store.contents solution) SOLUTION_LIMIT (store.took_more (length first + SOLUTION_LIMIT))
    (store.failed solution) (judged_from league)

judgement : (store : Store)
    (instance solution : List ℕ) (league : Instance) (games : List Game) (answer : Answer)
    → IsWellFormedPair store instance solution league games → NoneFails store (instance ∷ solution ∷ [])
    → validated store instance solution answer → IsJudgement league games answer
judgement store instance solution league games answer good works given =
    says-known (codes "solution") (solution_of league.n (pieces good.second)) games (IsJudgement league) answer
    good.says_games
    (takes-known (codes "solution") (store.contents solution) SOLUTION_LIMIT
    (store.took_more (length good.first + SOLUTION_LIMIT)) (store.failed solution) (judged_from league) answer good.second
    good.second_known good.second_within (second-works store instance solution [] works)
    (says-known (codes "instance") (instance_of (pieces good.first)) league
    (read_from store solution good.first) answer good.says_league
    (takes-known (codes "instance") (store.contents instance) INSTANCE_LIMIT (store.took_more INSTANCE_LIMIT) (store.failed instance)
    (λ first. says (codes "instance") (instance_of (pieces first))
    (read_from store solution first)) answer good.first good.first_known good.first_within
    (first-works store instance (solution ∷ []) works) given)))

pub validates : (run : Run) → Answered run → Validates run
validates run answered instance solution is = record {
  judged = λ league games good works.
      writes run (instance ∷ solution ∷ []) (Validate instance solution) (IsJudgement league games) answered is works
      (λ answer given. judgement run.store instance solution league games answer good works.store given);
}
