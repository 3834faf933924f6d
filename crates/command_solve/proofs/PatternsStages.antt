-- How the stages of `patterns` make an answer.
use Rattle.std.proofs.Common.{◌≡◌, ℕ, List, Option, Ok, codes, inl}
use Rattle.robin_io.specs.Outside.{Store}
use Rattle.league.specs.Instance.{Instance}
use Rattle.robinx.specs.Pieces.{pieces}
use Rattle.robinx.specs.InstanceFile.{instance_of}
use Rattle.robinx.specs.declared.instance.TheConstants.{INSTANCE_LIMIT}
use Rattle.answers.specs.Reply.{Answer}
use Rattle.answers.specs.Stages.{IsFile}
use Rattle.answers.proofs.StageLemmas.{says-value}
use Rattle.command_check.specs.Check.{encodes}
use Rattle.command_solve.specs.Patterns.{AreFound, patterned}

-- the instance file is read and says a league: what its rows come to is the answer
pub patterned-league : (store : Store)
    (instance bytes : List ℕ) (conflicts : Option ℕ) (league : Instance)
    → IsFile (store.contents instance) INSTANCE_LIMIT bytes → instance_of (pieces bytes) ≡ Ok league → (answer : Answer)
    → encodes league (λ rows. AreFound league conflicts) answer
    → patterned store instance conflicts answer
patterned-league store instance bytes conflicts league is_file says_league answer rest =
    inl (
      bytes,
      is_file,
      says-value (codes "instance") (instance_of (pieces bytes)) league
          (λ l. encodes l (λ rows. AreFound l conflicts)) answer says_league rest,
    )
