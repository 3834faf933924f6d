-- How the stages of `part` and `explain` make an answer.
use Rattle.std.proofs.Common.{◌≡◌, ℕ, List, IfOk, Option, Result, Ok, codes, inl, subst, sym}
use Rattle.robin_io.specs.Outside.{Store}
use Rattle.league.specs.Instance.{Instance}
use Rattle.robinx.specs.Pieces.{pieces}
use Rattle.robinx.specs.InstanceFile.{instance_of}
use Rattle.robinx.specs.declared.instance.TheConstants.{INSTANCE_LIMIT}
use Rattle.answers.specs.Reply.{Answer}
use Rattle.answers.specs.SeenReply.{answer_of}
use Rattle.answers.specs.Stages.{IsFile, Outcome}
use Rattle.answers.specs.declared.reply.Reply.{Reply}
use Rattle.answers.proofs.StageLemmas.{says-value}
use Rattle.command_check.specs.Check.{encodes}
use Rattle.command_explain.specs.Explained.{IsFound, explained}
use Rattle.command_explain.specs.Parted.{IsPart, parted}
use Rattle.command_explain.specs.Replied.{IsReplied}

-- the instance file is read and says a league: its part is the answer
pub parted-league : (store : Store)
    (instance bytes : List ℕ) (members : List ℕ) (league : Instance)
    → IsFile (store.contents instance) INSTANCE_LIMIT bytes → instance_of (pieces bytes) ≡ Ok league → (answer : Answer)
    → IsPart league members answer → parted store instance members answer
parted-league store instance bytes members league is_file says_league answer rest =
    inl (
      bytes,
      is_file,
      says-value (codes "instance") (instance_of (pieces bytes)) league (λ l. IsPart l members) answer says_league
          rest,
    )

-- what its rows come to is the answer
pub explained-league : (store : Store)
    (instance bytes : List ℕ) (conflicts : Option ℕ) (may_stop : Type 0) (league : Instance)
    → IsFile (store.contents instance) INSTANCE_LIMIT bytes → instance_of (pieces bytes) ≡ Ok league → (answer : Answer)
    → encodes league (λ rows. IsFound league conflicts may_stop) answer
    → explained store instance conflicts may_stop answer
explained-league store instance bytes conflicts may_stop league is_file says_league answer rest =
    inl (
      bytes,
      is_file,
      says-value (codes "instance") (instance_of (pieces bytes)) league
          (λ l. encodes l (λ rows. IsFound l conflicts may_stop)) answer says_league rest,
    )

-- what every reply says, the answer of a reply says
pub replied-so : {E : Type 0} (outcome : Outcome) (result : Result Reply E) (answer : Answer)
    → IfOk result (λ reply. outcome (answer_of reply)) → IsReplied result answer → outcome answer
replied-so {E} outcome result answer so (reply, is, same) =
    let said : outcome (answer_of reply) =
    subst (λ (r : Result Reply E). IfOk r (λ one. outcome (answer_of one))) is so in
    subst (λ (a : Answer). outcome a) (sym same) said
