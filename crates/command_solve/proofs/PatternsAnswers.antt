-- What follows from an answer of `patterns`.
use Rattle.std.proofs.Common.{◌≡◌, ℕ, ◌≤◌, List, length, Option, Some, Ok, codes, ap, inl, inr, sym, ◌∙◌}
use Rattle.robin_io.specs.Outside.{Store}
use Rattle.league.specs.Instance.{Instance}
use Rattle.robinx.specs.Pieces.{pieces}
use Rattle.robinx.specs.InstanceFile.{instance_of}
use Rattle.robinx.specs.declared.instance.TheConstants.{INSTANCE_LIMIT}
use Rattle.answers.specs.Reply.{Answer}
use Rattle.answers.specs.Stages.{Outcome, says}
use Rattle.answers.specs.declared.status.Status.TheVariants.{Yes, File, Refuted, Spent}
use Rattle.decoding.specs.Excluded.{NoneAccepted}
use Rattle.answers.proofs.StageLemmas.{takes-known, takes-refuted, says-known}
use Rattle.encoding.specs.Encoding.{encoding_size}
use Rattle.command_check.specs.Check.{encodes}
use Rattle.command_check.proofs.AnswerLemmas.{encodes-small}
use Rattle.command_solve.specs.Patterns.{AreFound, AreSearched, patterned}
use Rattle.encoding.specs.Limit.{most_terms}

-- what is found behind the instance file
abbrev pub found_of : Option ℕ → Instance → Outcome
found_of conflicts league = encodes league (λ rows. AreFound league conflicts)

abbrev pub said_of : Option ℕ → List ℕ → Outcome
said_of conflicts bytes = says (codes "instance") (instance_of (pieces bytes)) (found_of conflicts)

-- a file whose bytes are known and within the limit, at which nothing fails, and which says a league whose rows aren't
-- too many: the answer is what is found of its patterns
pub patterned-well_formed : (store : Store)
    (instance bytes : List ℕ) (conflicts : Option ℕ) (league : Instance) (answer : Answer)
    → store.contents instance ≡ Some bytes → length bytes ≤ INSTANCE_LIMIT → instance_of (pieces bytes) ≡ Ok league
    → encoding_size league ≤ most_terms → (store.failed instance → ⊥)
    → patterned store instance conflicts answer → AreFound league conflicts answer
patterned-well_formed store instance bytes conflicts league answer known within says_league small
    works given =
    encodes-small league (λ rows. AreFound league conflicts) answer small
    (says-known (codes "instance") (instance_of (pieces bytes)) league (found_of conflicts) answer says_league
    (takes-known (codes "instance") (store.contents instance) INSTANCE_LIMIT (store.took_more INSTANCE_LIMIT) (store.failed instance)
    (said_of conflicts) answer bytes known within works given))

searched-refuted : (league : Instance) (conflicts : Option ℕ) (answer : Answer) → answer.status ≡ Refuted
    → AreSearched league conflicts answer → NoneAccepted league
searched-refuted league conflicts answer ended (inl found) =
    let same : Yes ≡ Refuted = sym found.status ∙ ended in absurd (cc)
searched-refuted league conflicts answer ended (inr (inl refuted)) = refuted.refutes.none
searched-refuted league conflicts answer ended (inr (inr spent)) =
    let same : Spent ≡ Refuted = sym spent.status ∙ ended in absurd (cc)

found-refuted : (league : Instance) (conflicts : Option ℕ) (answer : Answer) → answer.status ≡ Refuted
    → AreFound league conflicts answer → NoneAccepted league
found-refuted league conflicts answer ended (inl counted) = counted.1.none
found-refuted league conflicts answer ended (inr searched) =
    searched-refuted league conflicts answer ended searched.1

encoded-refuted : (league : Instance) (conflicts : Option ℕ) (answer : Answer) → answer.status ≡ Refuted
    → found_of conflicts league answer → NoneAccepted league
encoded-refuted league conflicts answer ended (inl h) = found-refuted league conflicts answer ended h.1
encoded-refuted league conflicts answer ended (inr h) =
    let same : File ≡ Refuted = sym (ap (λ (a : Answer). a.status) h.1) ∙ ended in absurd (cc)

-- where the answer is a refutation, the league of the instance file accepts no list of games
pub patterned-refuted : (store : Store)
    (instance bytes : List ℕ) (conflicts : Option ℕ) (league : Instance) (answer : Answer)
    → store.contents instance ≡ Some bytes → instance_of (pieces bytes) ≡ Ok league → answer.status ≡ Refuted
    → patterned store instance conflicts answer → NoneAccepted league
patterned-refuted store instance bytes conflicts league answer known says_league ended given =
    encoded-refuted league conflicts answer ended
    (says-known (codes "instance") (instance_of (pieces bytes)) league (found_of conflicts) answer says_league
    (takes-refuted (codes "instance") (store.contents instance) INSTANCE_LIMIT (store.took_more INSTANCE_LIMIT) (store.failed instance)
    (said_of conflicts) answer bytes known ended given))
