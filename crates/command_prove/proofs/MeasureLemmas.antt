-- How a league is read and measured, or refused.
use Rattle.std.proofs.Common.{◌≡◌, ℕ, ◌<◌, List, Result, Ok, Err, codes, inl, inr, subst, sym}
use Rattle.robin_io.specs.Outside.{Store}
use Rattle.league.specs.Instance.{Instance}
use Rattle.robinx.specs.Pieces.{pieces}
use Rattle.robinx.specs.InstanceFile.{instance_of}
use Rattle.robinx.specs.Walk.{Fault}
use Rattle.robinx.specs.declared.instance.TheConstants.{INSTANCE_LIMIT}
use Rattle.answers.specs.Reply.{Answer, too_large}
use Rattle.answers.specs.SeenReply.{IsMalformed}
use Rattle.answers.specs.Stages.{IsFile, Outcome, says}
use Rattle.answers.proofs.StageLemmas.{says-value}
use Rattle.bound_rows.specs.BoundRows.{bound_size}
use Rattle.command_prove.specs.Bound.{has_few_terms}
use Rattle.command_prove.specs.Measured.{IsUnmeasured, measures}
use Rattle.encoding.specs.Limit.{most_terms}

-- the stages behind the bytes of a file
abbrev behind : (List ℕ → Instance → Outcome) → List ℕ → Instance → Outcome
behind next bytes league = has_few_terms league (λ few. next bytes league)

-- ---- refused

-- the file has a fault of form
pub measured-faulty : (store : Store) (instance bytes : List ℕ) → IsFile (store.contents instance) INSTANCE_LIMIT bytes
    → (answer : Answer) → IsMalformed (codes "instance") (instance_of (pieces bytes)) answer
    → IsUnmeasured store instance answer
measured-faulty store instance bytes is_file answer (fault, said, is) = inl (
  bytes,
  is_file,
  subst (λ (r : Result Instance Fault). says (codes "instance") r (behind (λ b l a. ⊥) bytes) answer) (sym said) is,
)

-- the bound rows of the league have too many terms
pub measured-large : (store : Store) (instance bytes : List ℕ) (league : Instance)
    → IsFile (store.contents instance) INSTANCE_LIMIT bytes → instance_of (pieces bytes) ≡ Ok league → (answer : Answer)
    → (most_terms < bound_size league) × (answer ≡ too_large (bound_size league)) → IsUnmeasured store instance answer
measured-large store instance bytes league is_file says_league answer large = inl (
  bytes,
  is_file,
  says-value (codes "instance") (instance_of (pieces bytes)) league (behind (λ b l a. ⊥) bytes) answer says_league
      (inr large),
)

-- ---- what follows

few-wider : (bytes : List ℕ) (league : Instance) (next : List ℕ → Instance → Outcome) (answer : Answer)
    → behind (λ b l a. ⊥) bytes league answer → behind next bytes league answer
few-wider bytes league next answer (inl few) = absurd few.1
few-wider bytes league next answer (inr large) = inr large

says-wider : (bytes : List ℕ) (said : Result Instance Fault) (next : List ℕ → Instance → Outcome) (answer : Answer)
    → says (codes "instance") said (behind (λ b l a. ⊥) bytes) answer
    → says (codes "instance") said (behind next bytes) answer
says-wider bytes (Ok league) next answer given = few-wider bytes league next answer given
says-wider bytes (Err fault) next answer given = given

-- what refuses a file is no matter of what would have followed
pub unmeasured-ends : (store : Store) (instance : List ℕ) (next : List ℕ → Instance → Outcome) (answer : Answer)
    → IsUnmeasured store instance answer → measures store instance next answer
unmeasured-ends store instance next answer (inl (bytes, is_file, given)) =
    inl (bytes, is_file, says-wider bytes (instance_of (pieces bytes)) next answer given)
unmeasured-ends store instance next answer (inr unread) = inr unread
