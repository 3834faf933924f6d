-- Worked runs, so that a wrong definition of what a run may answer does not check.
use Rattle.std.proofs.Common.{◌≡◌, ◌∷◌, [], true, false, Some, None, codes, refl}
use Rattle.robinx.specs.declared.tag_fault.FormKind.TheVariants.{BadNesting}
use Rattle.answers.specs.Reply.{Answer, log_malformed, malformed, refused_words}
use Rattle.answers.specs.declared.status.Status.TheVariants.{Yes, No, Words, File, Refuted, Spent, ReadFault, WriteFault}
use Rattle.answers.specs.declared.status.Status.TheVariants.{Memory, Better}
use Rattle.command_check.proofs.CheckFacts as checks
use Rattle.command_check.proofs.CheckFacts.{checked-bad, checked-good}
use Rattle.command_solve.specs.Circle.{circle_season}
use Rattle.command_line.specs.declared.goal.Goal.TheVariants as goal
use Rattle.command_line.specs.Words.Command.{Audit, Bound, Check, Circle, Make, Prove, Resume, Rows, Validate, Values}
use Rattle.command_solve.specs.MadeInstance.{made_instance}
use Rattle.refutation.specs.declared.fault.LogKind.TheVariants.{BadLine}
use Rattle.robin_run.specs.Answer.{IsAnswer}
use Rattle.robin_run.specs.Ends.{may_end}
use Rattle.robin_run.specs.Run.{step_room}
use Rattle.command_check.proofs.ValidateFacts as judged
use Rattle.command_check.proofs.ValidateFacts.{the_answer, validated-fault, validated-one}

-- where nothing fails, the judgement is the one answer to `validate league season`
pub validate-one : (answer : Answer) → IsAnswer ⊥ None (Some (Validate (codes "league") (codes "season"))) judged.store answer → answer ≡ the_answer
validate-one answer h = validated-one answer h

-- where the first file has a fault, this is the one answer
pub validate-fault : (answer : Answer) → IsAnswer ⊥ None (Some (Validate (codes "season") (codes "league"))) judged.store answer → answer ≡ malformed (codes "instance") BadNesting 1
validate-fault answer h = validated-fault answer h

-- `check` over a log that is accepted, and over one with a fault of form behind a step that doesn't follow
pub check-good : (answer : Answer) → IsAnswer ⊥ None (Some (Check (codes "league") (codes "good"))) checks.store answer → answer ≡ record { status = Yes; text = codes "accepted steps 1\n" }
check-good answer h = checked-good answer h

pub check-bad : (answer : Answer) → IsAnswer ⊥ None (Some (Check (codes "league") (codes "bad"))) checks.store answer → answer ≡ log_malformed BadLine 3
check-bad answer h = checked-bad answer h

-- a megabyte has a million bytes, and the steps of a log may take any number where the words don't say it
pub room-some : (step_room (codes "check" ∷ codes "league" ∷ codes "--room" ∷ codes "5" ∷ codes "log" ∷ []) ≡ Some 5000000)
    × (step_room (codes "bound" ∷ codes "--room" ∷ codes "0" ∷ codes "league" ∷ codes "log" ∷ []) ≡ Some 0)
    × (step_room (codes "bound" ∷ codes "league" ∷ codes "log" ∷ []) ≡ None) × (step_room [] ≡ None)
room-some = (refl, refl, refl, refl)

-- refused words, `circle` and `make`
pub words-one : (answer : Answer) → IsAnswer ⊥ None None judged.store answer → answer ≡ refused_words
words-one answer h = h

pub circle-one : (answer : Answer) → IsAnswer ⊥ None (Some (Circle 2)) judged.store answer → answer ≡ circle_season 2
circle-one answer h = h

pub make-one : (answer : Answer) → IsAnswer ⊥ None (Some (Make 4 1)) judged.store answer → answer ≡ made_instance 4 1
make-one answer h = h.made

-- how runs may end: refused words, `prove`, and what comes of other commands alone
pub ends-words : (may_end None Words ≡ true) × (may_end None Yes ≡ false) × (may_end (Some (Circle 4)) File ≡ false)
ends-words = (refl, refl, refl)

pub ends-prove : (may_end (Some (Prove (codes "a") (codes "b") None None)) Better ≡ true)
    × (may_end (Some (Prove (codes "a") (codes "b") None None)) No ≡ true)
    × (may_end (Some (Prove (codes "a") (codes "b") None None)) Spent ≡ true)
    × (may_end (Some (Prove (codes "a") (codes "b") None None)) Refuted ≡ false)
    × (may_end (Some (Prove (codes "a") (codes "b") None None)) Memory ≡ false)
ends-prove = (refl, refl, refl, refl, refl)

pub ends-others : (may_end (Some (Bound (codes "a") (codes "b"))) Better ≡ false)
    × (may_end (Some (Resume (codes "a") (codes "b") 3 None)) Refuted ≡ true)
    × (may_end (Some (Resume (codes "a") (codes "b") 3 None)) No ≡ false)
    × (may_end (Some (Audit (codes "a") (codes "b") 3 (codes "c"))) ReadFault ≡ true)
    × (may_end (Some (Audit (codes "a") (codes "b") 3 (codes "c"))) WriteFault ≡ false)
ends-others = (refl, refl, refl, refl, refl)

pub ends-rows : (may_end (Some (Rows (codes "a") goal.Accepted)) Yes ≡ true)
    × (may_end (Some (Rows (codes "a") (goal.AtMost 7))) No ≡ false)
    × (may_end (Some (Values (codes "a") (codes "b"))) No ≡ true)
    × (may_end (Some (Values (codes "a") (codes "b"))) ReadFault ≡ true)
    × (may_end (Some (Values (codes "a") (codes "b"))) Refuted ≡ false)
ends-rows = (refl, refl, refl, refl, refl)
