-- How the stages of `solve` make an answer.
use Rattle.std.proofs.Common.{◌≡◌, ℕ, List, Ok, codes, inl}
use Rattle.robin_io.specs.Outside.{Store}
use Rattle.robin_watch.specs.declared.budgets.Budgets.{Budgets}
use Rattle.league.specs.Instance.{Instance}
use Rattle.robinx.specs.Pieces.{pieces}
use Rattle.robinx.specs.InstanceFile.{instance_of}
use Rattle.robinx.specs.declared.instance.TheConstants.{INSTANCE_LIMIT}
use Rattle.answers.specs.Reply.{Answer}
use Rattle.answers.specs.Stages.{IsFile}
use Rattle.answers.proofs.StageLemmas.{says-value}
use Rattle.command_check.specs.Check.{encodes}
use Rattle.command_solve.specs.Solve.{IsFoundBy, solved}

-- the instance file is read and says a league: what its rows come to is the answer
pub solved-league : (store : Store) (instance bytes : List ℕ) (budgets : Budgets) (may_stop : Type 0) (league : Instance)
    → IsFile (store.contents instance) INSTANCE_LIMIT bytes → instance_of (pieces bytes) ≡ Ok league
    → (answer : Answer) → encodes league (IsFoundBy league budgets may_stop) answer
    → solved store instance budgets may_stop answer
solved-league store instance bytes budgets may_stop league is_file says_league answer rest =
    inl (bytes, is_file, says-value (codes "instance") (instance_of (pieces bytes)) league (λ l. encodes l (IsFoundBy l budgets may_stop)) answer says_league rest)
