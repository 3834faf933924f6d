-- How the stages of `prove` make an answer.
use Rattle.std.proofs.Common.{◌≡◌, ℕ, ◌+◌, ◌≤◌, List, length, Ok, codes, inl, inr}
use Rattle.robin_io.specs.Outside.{Store}
use Rattle.league.specs.Instance.{Instance}
use Rattle.league.specs.declared.game.Game.{Game}
use Rattle.robinx.specs.Pieces.{pieces}
use Rattle.robinx.specs.InstanceFile.{instance_of}
use Rattle.robinx.specs.SolutionFile.{solution_of}
use Rattle.robinx.specs.declared.instance.TheConstants.{INSTANCE_LIMIT, SOLUTION_LIMIT}
use Rattle.answers.specs.Reply.{Answer}
use Rattle.answers.specs.Stages.{IsFile, IsUnread, Outcome, says, takes}
use Rattle.answers.proofs.StageLemmas.{says-value}
use Rattle.bound_rows.specs.BoundRows.{bound_size}
use Rattle.command_prove.specs.Bound.{has_few_terms}
use Rattle.command_prove.specs.Measured.{IsUnmeasured}
use Rattle.command_prove.specs.Prove.{proved}
use Rattle.command_prove.proofs.MeasureLemmas.{unmeasured-ends}
use Rattle.encoding.specs.Limit.{most_terms}

-- the stages behind the instance file, whose bytes were so many
abbrev pub solution_stages : Store → List ℕ → (Instance → List Game → Outcome) → ℕ → Instance → Answer → Type 0
solution_stages store solution shown front league =
    has_few_terms league (λ few. takes (codes "solution") (store.contents solution) SOLUTION_LIMIT
    (store.took_more (front + SOLUTION_LIMIT)) (store.failed solution)
    (λ bytes. says (codes "solution") (solution_of league.n (pieces bytes)) (shown league)))

-- the instance file is read and says a league: what comes then is the answer
after-league : (store : Store)
    (instance solution : List ℕ) (shown : Instance → List Game → Outcome) (first : List ℕ) (league : Instance)
    → IsFile (store.contents instance) INSTANCE_LIMIT first → instance_of (pieces first) ≡ Ok league → (answer : Answer)
    → solution_stages store solution shown (length first) league answer
    → proved store instance solution shown answer
after-league store instance solution shown first league is_first says_league answer rest =
    inl (
      first,
      is_first,
      says-value (codes "instance") (instance_of (pieces first)) league
          (solution_stages store solution shown (length first)) answer says_league rest,
    )

-- the league is refused
pub proved-unmeasured : (store : Store) (instance solution : List ℕ) (shown : Instance → List Game → Outcome)
    (answer : Answer) → IsUnmeasured store instance answer → proved store instance solution shown answer
proved-unmeasured store instance solution shown answer ends =
    unmeasured-ends store instance
    (λ first league. takes (codes "solution") (store.contents solution) SOLUTION_LIMIT
    (store.took_more (length first + SOLUTION_LIMIT)) (store.failed solution)
    (λ bytes. says (codes "solution") (solution_of league.n (pieces bytes)) (shown league))) answer ends

-- the solution isn't read
pub proved-unread : (store : Store)
    (instance solution : List ℕ) (shown : Instance → List Game → Outcome) (first : List ℕ) (league : Instance)
    → IsFile (store.contents instance) INSTANCE_LIMIT first → instance_of (pieces first) ≡ Ok league
    → bound_size league ≤ most_terms → (answer : Answer)
    → IsUnread (codes "solution") (store.contents solution) SOLUTION_LIMIT (store.took_more (length first + SOLUTION_LIMIT))
    (store.failed solution) answer → proved store instance solution shown answer
proved-unread store instance solution shown first league is_first says_league small answer
    unread =
    after-league store instance solution shown first league is_first says_league answer
    (inl (small, inr unread))

-- the solution is read: the rest is the answer to what it says
pub proved-last : (store : Store)
    (instance solution : List ℕ) (shown : Instance → List Game → Outcome) (first second : List ℕ)
    (league : Instance)
    → IsFile (store.contents instance) INSTANCE_LIMIT first → instance_of (pieces first) ≡ Ok league
    → bound_size league ≤ most_terms → IsFile (store.contents solution) SOLUTION_LIMIT second → (answer : Answer)
    → says (codes "solution") (solution_of league.n (pieces second)) (shown league) answer
    → proved store instance solution shown answer
proved-last store instance solution shown first second league is_first says_league small
    is_second answer last =
    after-league store instance solution shown first league is_first says_league answer
    (inl (small, inl (second, is_second, last)))
