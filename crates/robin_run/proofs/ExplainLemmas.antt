-- What `explain` and `part` promise is kept.
use Rattle.std.proofs.Common.{◌≡◌, ℕ, ◌≤◌, Bool, true, false, if◌then◌else◌, List, [], ◌∷◌, ◌++◌, length, get_or}
use Rattle.std.proofs.Common.{Option, Some, Ok, codes, ap, arith, inl, inr, refl, sym, subst, ◌∙◌}
use Rattle.std.specs.Io.KnownBytes.{Appends}
use Rattle.std.specs.Prelude.{◌&&◌}
use Rattle.std.specs.List.{list_all}
use Rattle.std.proofs.lemmas.List.Elements.{All-cons, All-nil}
use Rattle.robin_io.specs.Outside.{Output, Store}
use Rattle.robinx.specs.Pieces.{pieces}
use Rattle.robinx.specs.InstanceFile.{instance_of}
use Rattle.robinx.specs.declared.instance.TheConstants.{INSTANCE_LIMIT}
use Rattle.league.specs.Instance.{Instance}
use Rattle.command_line.specs.Words.Command.{Explain, Part}
use Rattle.answers.specs.Reply.{Answer}
use Rattle.answers.specs.Stages.{Outcome, says}
use Rattle.answers.specs.declared.status.Status.TheVariants.{Yes, File, Refuted, Spent}
use Rattle.answers.proofs.StageLemmas.{first-works, says-known, takes-known, takes-refuted}
use Rattle.command_check.specs.Check.{encodes}
use Rattle.command_check.proofs.AnswerLemmas.{encodes-small}
use Rattle.explain.specs.Cases.{is_decided}
use Rattle.explain.specs.Conflicts.{AreDecided}
use Rattle.explain.specs.declared.cases.Case.{Case}
use Rattle.command_explain.specs.Explained.{IsFound, IsNamed, explained}
use Rattle.command_explain.specs.Parted.{IsPart, parted}
use Rattle.command_explain.specs.Texts.{cases_text, log_text, minimal_line}
use Rattle.command_solve.specs.Solve.{IsWellFormedInstance}
use Rattle.robin_run.specs.Explain.{Explains, IsContradiction}
use Rattle.robin_run.specs.Readable.{IsReadable}
use Rattle.robin_run.specs.Part.{Parts}
use Rattle.robin_run.specs.Run.{Answered, Run}
use Rattle.robin_run.proofs.RunLemmas.{writes, writes-as}

-- ---- stages

abbrev found_of : Option ℕ → Type 0 → Instance → Outcome
found_of conflicts may_stop league = encodes league (λ rows. IsFound league conflicts may_stop)

abbrev said_of : Option ℕ → Type 0 → List ℕ → Outcome
said_of conflicts may_stop bytes = says (codes "instance") (instance_of (pieces bytes)) (found_of conflicts may_stop)

-- a well-formed instance at which nothing fails: the answer is what is found of its league
found-well_formed : (store : Store)
    (instance : List ℕ) (conflicts : Option ℕ) (may_stop : Type 0) (league : Instance) (answer : Answer)
    → IsWellFormedInstance store instance league → (store.failed instance → ⊥)
    → explained store instance conflicts may_stop answer → IsFound league conflicts may_stop answer
found-well_formed store instance conflicts may_stop league answer good works given =
    encodes-small league (λ rows. IsFound league conflicts may_stop) answer good.small
    (says-known (codes "instance") (instance_of (pieces good.bytes)) league (found_of conflicts may_stop) answer good.says_league
    (takes-known (codes "instance") (store.contents instance) INSTANCE_LIMIT (store.took_more INSTANCE_LIMIT) (store.failed instance)
    (said_of conflicts may_stop) answer good.bytes good.known good.within works given))

-- a part of a well-formed instance
part-well_formed : (store : Store)
    (instance members bytes : List ℕ) (league : Instance) (answer : Answer) → store.contents instance ≡ Some bytes
    → length bytes ≤ INSTANCE_LIMIT → instance_of (pieces bytes) ≡ Ok league → (store.failed instance → ⊥)
    → parted store instance members answer → IsPart league members answer
part-well_formed store instance members bytes league answer known within says_league works given =
    says-known (codes "instance") (instance_of (pieces bytes)) league (λ l. IsPart l members) answer says_league
    (takes-known (codes "instance") (store.contents instance) INSTANCE_LIMIT (store.took_more INSTANCE_LIMIT) (store.failed instance)
    (λ first. says (codes "instance") (instance_of (pieces first)) (λ l. IsPart l members)) answer bytes known within
    works given)

-- ---- a refutation

found-refuted : (league : Instance) (conflicts : Option ℕ) (may_stop : Type 0) (answer : Answer) → answer.status ≡ Refuted
    → IsFound league conflicts may_stop answer → IsNamed league conflicts may_stop answer
found-refuted league conflicts may_stop answer ended found =
    elim found.found [
      | inl met ↦ let same : Yes ≡ Refuted = sym met.status ∙ ended in absurd (cc)
      | inr (inl named) ↦ named
      | inr (inr spent) ↦ let same : Spent ≡ Refuted = sym spent.status ∙ ended in absurd (cc)
    ]

encoded-refuted : (league : Instance) (conflicts : Option ℕ) (may_stop : Type 0) (answer : Answer) → answer.status ≡ Refuted
    → found_of conflicts may_stop league answer → IsNamed league conflicts may_stop answer
encoded-refuted league conflicts may_stop answer ended (inl h) = found-refuted league conflicts may_stop answer ended h.1
encoded-refuted league conflicts may_stop answer ended (inr h) =
    let same : File ≡ Refuted = sym (ap (λ (a : Answer). a.status) h.1) ∙ ended in absurd (cc)

-- where the answer is a refutation, hard constraints of the league of the file are named
explained-named : (store : Store)
    (instance bytes : List ℕ) (conflicts : Option ℕ) (may_stop : Type 0) (league : Instance) (answer : Answer)
    → store.contents instance ≡ Some bytes → instance_of (pieces bytes) ≡ Ok league → answer.status ≡ Refuted
    → explained store instance conflicts may_stop answer → IsNamed league conflicts may_stop answer
explained-named store instance bytes conflicts may_stop league answer known says_league ended given =
    encoded-refuted league conflicts may_stop answer ended
    (says-known (codes "instance") (instance_of (pieces bytes)) league (found_of conflicts may_stop) answer says_league
    (takes-refuted (codes "instance") (store.contents instance) INSTANCE_LIMIT (store.took_more INSTANCE_LIMIT) (store.failed instance)
    (said_of conflicts may_stop) answer bytes known ended given))

-- ---- `minimal yes`

decided-head : (a b : Bool) → (a && b) ≡ true → a ≡ true
decided-head true b is = refl
decided-head false b is = is

decided-tail : (a b : Bool) → (a && b) ≡ true → b ≡ true
decided-tail true b is = is
decided-tail false b is = absurd (cc)

are_decided : (cases : List Case) → list_all is_decided cases ≡ true → AreDecided cases
are_decided [] is = All-nil (λ case. is_decided case ≡ true)
are_decided (case ∷ cases) is =
    All-cons (λ c. is_decided c ≡ true) case cases (decided-head (is_decided case) (list_all is_decided cases) is)
    (are_decided cases (decided-tail (is_decided case) (list_all is_decided cases) is))

other_letter : (a b : ℕ) → a ≡ b → a ≡ 110 → b ≡ 121 → ⊥
other_letter a b same n y = omega arith

-- a line that begins as `minimal yes` does is it
minimal_yes : (decided : Bool) (more later : List ℕ)
    → (if decided then codes "minimal yes\n" else codes "minimal no\n") ++ more ≡ codes "minimal yes\n" ++ later
    → decided ≡ true
minimal_yes true more later is = refl
minimal_yes false more later is =
    absurd (other_letter (get_or (codes "minimal no\n" ++ more) 8 0) (get_or (codes "minimal yes\n" ++ later) 8 0)
    (ap (λ (text : List ℕ). get_or text 8 0) is) refl refl)

-- what is said of the named constraints, where the text is written whole
contradiction : (league : Instance) (conflicts : Option ℕ) (may_stop : Type 0) (answer : Answer) (output : Output)
    → IsNamed league conflicts may_stop answer → Appends output.before output.after answer.text → IsContradiction league output
contradiction league conflicts may_stop answer output named written = record {
  members = named.members;
  rest = minimal_line named.cases ++ (log_text named.log ++ cases_text named.members named.cases);
  some = named.conflict.some;
  ascending = named.conflict.ascending;
  hard = named.conflict.hard;
  written = subst (λ (text : List ℕ). Appends output.before output.after text) named.text written;
  infeasible = named.conflict.refuted.none;
  minimal = λ later is.
      named.irreducible
      (are_decided named.cases
      (minimal_yes (list_all is_decided named.cases) (log_text named.log ++ cases_text named.members named.cases) later
      is));
}

-- what stands behind the named constraints reads back
readable : (league : Instance) (conflicts : Option ℕ) (may_stop : Type 0) (answer : Answer) (output : Output)
    → IsNamed league conflicts may_stop answer → Appends output.before output.after answer.text
    → IsReadable league conflicts may_stop output
readable league conflicts may_stop answer output named written = record {
  members = named.members;
  log = named.log;
  cases = named.cases;
  written = subst (λ (text : List ℕ). Appends output.before output.after text) named.text written;
  log_reads_back = named.log_reads_back;
  accepted = named.conflict.refuted.accepted;
  each = named.conflict.each;
  cases_read_back = named.cases_read_back;
}

-- ---- promises

pub explains : (run : Run) → Answered run → Explains run
explains run answered instance conflicts is = record {
  explained = λ league good works.
      writes run (instance ∷ []) (Explain instance conflicts) (IsFound league conflicts run.may_stop) answered is works
      (λ answer given. found-well_formed run.store instance conflicts run.may_stop league answer good
      (first-works run.store instance [] works.store) given);
  contradictory = λ league said ended.
      let whole = writes-as run (Explain instance conflicts) Refuted answered is ended (λ same. cc) (λ same. cc) in
      contradiction league conflicts run.may_stop whole.answer run.output
      (explained-named run.store instance said.bytes conflicts run.may_stop league whole.answer said.known said.says_league
      whole.status_is whole.given) whole.written;
  readable = λ league said ended.
      let whole = writes-as run (Explain instance conflicts) Refuted answered is ended (λ same. cc) (λ same. cc) in
      readable league conflicts run.may_stop whole.answer run.output
      (explained-named run.store instance said.bytes conflicts run.may_stop league whole.answer said.known said.says_league
      whole.status_is whole.given) whole.written;
}

pub parts : (run : Run) → Answered run → Parts run
parts run answered instance members is = record {
  parted = λ league said within works.
      writes run (instance ∷ []) (Part instance members) (IsPart league members) answered is works
      (λ answer given. part-well_formed run.store instance members said.bytes league answer said.known within
      said.says_league (first-works run.store instance [] works.store) given);
}
