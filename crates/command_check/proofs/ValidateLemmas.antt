-- How the stages of `validate` make an answer.
use Rattle.std.proofs.Common.{◌≡◌, ℕ, ◌+◌, List, length, Ok, codes, inl, inr}
use Rattle.robin_io.specs.Outside.{Store}
use Rattle.league.specs.Instance.{Instance}
use Rattle.robinx.specs.Pieces.{pieces}
use Rattle.robinx.specs.InstanceFile.{instance_of}
use Rattle.robinx.specs.SolutionFile.{solution_of}
use Rattle.robinx.specs.declared.instance.TheConstants.{INSTANCE_LIMIT, SOLUTION_LIMIT}
use Rattle.answers.specs.Reply.{Answer}
use Rattle.answers.specs.Stages.{IsFile, IsUnread, says, takes}
use Rattle.answers.proofs.StageLemmas.{says-value}
use Rattle.command_check.specs.Validate.{IsJudgement, validated}

-- the first file is read and says a league: what is answered at the second is the answer
after-first : (store : Store) (instance solution first : List ℕ) (league : Instance) → IsFile (store.contents instance) INSTANCE_LIMIT first → instance_of (pieces first) ≡ Ok league
    → (answer : Answer) → takes (codes "solution") (store.contents solution) SOLUTION_LIMIT (store.took_more (length first + SOLUTION_LIMIT)) (store.failed solution) (λ bytes. says (codes "solution") (solution_of league.n (pieces bytes)) (IsJudgement league)) answer → validated store instance solution answer
after-first store instance solution first league is_first says_league answer rest =
    inl (
      first,
      is_first,
      says-value (codes "instance") (instance_of (pieces first)) league (λ l. takes
          (codes "solution") (store.contents solution) SOLUTION_LIMIT (store.took_more (length first + SOLUTION_LIMIT))
          (store.failed solution) (λ bytes. says (codes "solution") (solution_of l.n (pieces bytes)) (IsJudgement l))) answer
          says_league rest,
    )

-- the second file isn't read
pub validated-unread : (store : Store) (instance solution first : List ℕ) (league : Instance) → IsFile (store.contents instance) INSTANCE_LIMIT first → instance_of (pieces first) ≡ Ok league
    → (answer : Answer) → IsUnread (codes "solution") (store.contents solution) SOLUTION_LIMIT (store.took_more (length first + SOLUTION_LIMIT)) (store.failed solution) answer → validated store instance solution answer
validated-unread store instance solution first league is_first says_league answer unread = after-first store instance solution first league is_first says_league answer (inr unread)

-- both files are read, and the first says a league: the rest is the answer to the second
pub validated-last : (store : Store) (instance solution first second : List ℕ) (league : Instance) → IsFile (store.contents instance) INSTANCE_LIMIT first → instance_of (pieces first) ≡ Ok league → IsFile (store.contents solution) SOLUTION_LIMIT second
    → (answer : Answer) → says (codes "solution") (solution_of league.n (pieces second)) (IsJudgement league) answer → validated store instance solution answer
validated-last store instance solution first second league is_first says_league is_second answer last =
    after-first store instance solution first league is_first says_league answer (inl (second, is_second, last))
