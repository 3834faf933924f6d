-- What `prove` and `bound` promise is kept.
use Rattle.std.proofs.Common.{◌∷◌, [], ◌≡◌, ◌⊎◌, ℕ, ◌+◌, List, ◌++◌, length, decimal, Option, None, Some, Result, Ok, Err, codes, ap, inl}
use Rattle.std.proofs.Common.{inr, refl, sym, subst, ◌∙◌}
use Rattle.std.specs.Io.KnownBytes.{Appends}
use Rattle.std.specs.Prelude.{IfSome}
use Rattle.robin_io.specs.Outside.{Output, Store}
use Rattle.robin_watch.specs.Limits.{IsKeptTo}
use Rattle.robinx.specs.Pieces.{pieces}
use Rattle.robinx.specs.InstanceFile.{instance_of}
use Rattle.robinx.specs.declared.instance.TheConstants.{INSTANCE_LIMIT}
use Rattle.league.specs.Instance.{Instance}
use Rattle.league.specs.declared.game.Game.{Game}
use Rattle.command_line.specs.Words.Command.{Bound, Prove}
use Rattle.answers.specs.Reply.{Answer}
use Rattle.answers.specs.Stages.{Outcome, says, takes}
use Rattle.answers.specs.declared.status.Status.{Status}
use Rattle.answers.specs.declared.status.Status.TheVariants.{Yes, No, Better, File, ReadFault, Spent}
use Rattle.answers.proofs.StageLemmas.{takes-yes, says-known}
use Rattle.refutation.specs.Logs.{Fault}
use Rattle.refutation.specs.declared.verdict.Verdict.{Verdict}
use Rattle.refutation.specs.declared.verdict.Verdict.TheVariants.{Accepted, Rejected}
use Rattle.command_check.specs.Check.{most_log_bytes}
use Rattle.bounds.specs.Certificates.{certificate_of}
use Rattle.bounds.specs.declared.certificate.Certificate.{Certificate}
use Rattle.command_prove.specs.Bound.{IsBoundVerdict, IsWellFormedCertificate, IsWithinRoom, bound_answer, bound_verdict}
use Rattle.command_prove.specs.Bound.{bounded, has_few_terms, says_certificate}
use Rattle.command_prove.proofs.BoundAnswers.{bounded-known, bounded-well_formed}
use Rattle.command_prove.specs.Floor.{IsShownWith}
use Rattle.command_prove.specs.Prove as proving
use Rattle.command_prove.specs.Prove.{IsLeast, IsLeastByFloor, IsShownBy, proved}
use Rattle.command_prove.proofs.ProveAnswers.{ShowsAs, proved-known, proved-well_formed}
use Rattle.command_resume.specs.Seasons.{SaySeason}
use Rattle.robin_run.specs.Bound.{Bounds, IsCertified}
use Rattle.robin_run.specs.Prove.{IsBettered, IsFloored, IsUnbettered, Promise, Proves}
use Rattle.robin_run.specs.Run.{Answered, Run}
use Rattle.robin_run.proofs.FloorLemmas.{shows-floor}
use Rattle.robin_run.proofs.RunLemmas.{writes, writes-as}

-- ---- `prove`

unbettered : (league : Instance) (conflicts : Option ℕ) (games : List Game) (answer : Answer) (output : Output)
    → IsLeast league conflicts games answer ⊎ IsLeastByFloor league conflicts games answer
    → Appends output.before output.after answer.text → IsUnbettered league games output
unbettered league conflicts games answer output (inl shown) written = record {
  steps = shown.steps;
  accepted = shown.accepted;
  least = shown.least;
  certified = shown.proves;
  written = subst (λ (text : List ℕ). Appends output.before output.after text) shown.text written;
}
unbettered league conflicts games answer output (inr shown) written = record {
  steps = shown.floor;
  accepted = shown.accepted;
  least = shown.certified.least;
  certified = shown.certified.proves;
  written = subst (λ (text : List ℕ). Appends output.before output.after text) shown.text written;
}

bettered : (league : Instance) (games : List Game) (answer : Answer) (output : Output)
    → proving.IsBettered league games answer → Appends output.before output.after answer.text → IsBettered league games output
bettered league games answer output shown written = record {
  better = shown.better;
  accepted = shown.accepted;
  better_accepted = shown.better_accepted;
  fit = shown.fit;
  lower = shown.lower;
  written = subst (λ (text : List ℕ). Appends output.before output.after text) shown.text written;
}

floored : {may_stop : Type 0} (league : Instance) (conflicts : Option ℕ) (games : List Game) (answer : Answer)
    (output : Output) → proving.IsSpentBelow league conflicts may_stop games answer
    → Appends output.before output.after answer.text → IsFloored league games output
floored league conflicts games answer output shown written = record {
  bound = shown.bound;
  floor = shown.floor;
  steps = shown.steps;
  accepted = shown.accepted;
  least = shown.certified.least;
  below = shown.below;
  certified = shown.certified.proves;
  reads_back = shown.certified.reads_back;
  written = subst (λ (text : List ℕ). Appends output.before output.after text) shown.text written;
}

-- what an answer shows of the games of two files, by its status
shown-by : (run : Run) (instance solution : List ℕ) (conflicts : Option ℕ) (league : Instance) (games : List Game)
    (answer : Answer) → SaySeason run.store instance solution league games
    → proved run.store instance solution (IsShownWith None (IsKeptTo conflicts run.may_stop) run.may_stop) answer
    → ShowsAs league (IsKeptTo conflicts run.may_stop) run.may_stop games answer
shown-by run instance solution conflicts league games answer say given =
    proved-known run.store instance solution say.first say.second league games (IsKeptTo conflicts run.may_stop)
    run.may_stop answer say.first_known say.second_known say.says_league say.says_played given

shows-season : (run : Run) → Answered run → (instance solution : List ℕ) (conflicts : Option ℕ)
    → run.command ≡ Some (Prove instance solution None conflicts) → Promise run instance solution conflicts
shows-season run answered instance solution conflicts is = record {
  proved = λ league games good works.
      writes run (instance ∷ solution ∷ []) (Prove instance solution None conflicts)
      (IsShownBy league (IsKeptTo conflicts run.may_stop) run.may_stop games) answered is works
      (λ answer given. proved-well_formed run.store instance solution league games
      (IsShownWith None (IsKeptTo conflicts run.may_stop) run.may_stop) answer good works.store given);
  unbettered = λ league games say ended.
      let whole = writes-as run (Prove instance solution None conflicts) Yes answered is ended (λ same. cc) (λ same. cc) in
      let shown = (shown-by run instance solution conflicts league games whole.answer say whole.given).least
      whole.status_is in
      unbettered league shown.0 games whole.answer run.output shown.1 whole.written;
  bettered = λ league games say ended.
      let whole = writes-as run (Prove instance solution None conflicts) Better answered is ended (λ same. cc) (λ same. cc) in
      bettered league games whole.answer run.output
      ((shown-by run instance solution conflicts league games whole.answer say whole.given).better whole.status_is)
      whole.written;
  floored = λ league games say ended.
      let whole = writes-as run (Prove instance solution None conflicts) Spent answered is ended (λ same. cc) (λ same. cc) in
      let shown = (shown-by run instance solution conflicts league games whole.answer say whole.given).spent
      whole.status_is in
      floored league shown.0 games whole.answer run.output shown.1 whole.written;
}

pub proves : (run : Run) → Answered run → Proves run
proves run answered = record { season = shows-season run answered; floor = shows-floor run answered }

-- ---- `bound`

-- the line of an accepted certificate
abbrev accepted_line : ℕ → ℕ → List ℕ
accepted_line bound steps =
    codes "accepted bound " ++ (decimal bound ++ (codes " steps " ++ (decimal steps ++ codes "\n")))

accepted-text : (bound steps : ℕ) (verdict : Verdict) → (bound_answer bound steps verdict).status ≡ Yes
    → (bound_answer bound steps verdict).text ≡ accepted_line bound steps
accepted-text bound steps Accepted is = refl
accepted-text bound steps (Rejected step cause) is = let same : No ≡ Yes = is in absurd (cc)

verdict-certified : (league : Instance) (room : Option ℕ) (certificate : Certificate) (answer : Answer)
    (output : Output) → answer.status ≡ Yes → Appends output.before output.after answer.text
    → IsBoundVerdict league room certificate answer → IsCertified league output
verdict-certified league room certificate answer output accepted written verdict =
    let text : answer.text ≡ accepted_line certificate.bound (length certificate.log) =
    ap (λ (a : Answer). a.text) verdict.verdict
    ∙ accepted-text certificate.bound (length certificate.log)
    (bound_verdict league certificate.bound certificate.log)
    (sym (ap (λ (a : Answer). a.status) verdict.verdict) ∙ accepted) in
    record {
      bound = certificate.bound;
      steps = length certificate.log;
      least = verdict.holds accepted;
      written = subst (λ (t : List ℕ). Appends output.before output.after t) text written;
    }

said-certified : (league : Instance) (room : Option ℕ) (said : Result Certificate Fault) (answer : Answer)
    (output : Output) → answer.status ≡ Yes → Appends output.before output.after answer.text
    → says_certificate said (IsBoundVerdict league room) answer → IsCertified league output
said-certified league room (Ok certificate) answer output accepted written verdict =
    verdict-certified league room certificate answer output accepted written verdict
said-certified league room (Err fault) answer output accepted written is =
    let same : File ≡ Yes = sym (ap (λ (a : Answer). a.status) is) ∙ accepted in absurd (cc)

-- the stages behind the league, where the instance file had so many bytes
abbrev certificate_from : Store → Option ℕ → List ℕ → List ℕ → Instance → Outcome
certificate_from store room log first league =
    has_few_terms league
    (λ few. takes (codes "log") (store.contents log) most_log_bytes (store.took_more (length first + most_log_bytes)) (store.failed log)
    (λ second. says_certificate (certificate_of second) (IsBoundVerdict league room)))

few-certified : (store : Store) (room : Option ℕ)
    (log first : List ℕ) (league : Instance) (answer : Answer) (output : Output) → answer.status ≡ Yes
    → Appends output.before output.after answer.text → certificate_from store room log first league answer
    → IsCertified league output
few-certified store room log first league answer output accepted written (inl h) =
    let read = takes-yes (codes "log") (store.contents log) most_log_bytes (store.took_more (length first + most_log_bytes))
    (store.failed log) (λ second. says_certificate (certificate_of second) (IsBoundVerdict league room)) answer accepted h.1 in
    said-certified league room (certificate_of read.0) answer output accepted written read.2
few-certified store room log first league answer output accepted written (inr h) =
    let same : File ≡ Yes = sym (ap (λ (a : Answer). a.status) h.1) ∙ accepted in absurd (cc)

bounded-certified : (store : Store) (room : Option ℕ)
    (instance log bytes : List ℕ) (league : Instance) (answer : Answer) (output : Output)
    → store.contents instance ≡ Some bytes → instance_of (pieces bytes) ≡ Ok league → answer.status ≡ Yes
    → Appends output.before output.after answer.text → bounded store room instance log answer → IsCertified league output
bounded-certified store room instance log bytes league answer output known says_league accepted written
    given =
    let next : List ℕ → Outcome =
    λ first. says (codes "instance") (instance_of (pieces first))
    (certificate_from store room log first) in
    let read = takes-yes (codes "instance") (store.contents instance) INSTANCE_LIMIT (store.took_more INSTANCE_LIMIT)
    (store.failed instance) next answer accepted given in
    let same : read.0 ≡ bytes = subst (λ (k : Option (List ℕ)). IfSome k (λ file. read.0 ≡ file)) known read.1.same in
    let at_instance : next bytes answer = subst (λ (b : List ℕ). next b answer) same read.2 in
    few-certified store room log bytes league answer output accepted written
    (says-known (codes "instance") (instance_of (pieces bytes)) league
    (certificate_from store room log bytes) answer says_league at_instance)

-- an answer with this status, which no refused file has, is the verdict on a certificate that is known
told-within : (store : Store) (room : Option ℕ) (instance log : List ℕ) (league : Instance) (certificate : Certificate)
    (answer : Answer) (status : Status) → IsWellFormedCertificate store instance log league certificate
    → answer.status ≡ status → (status ≡ File → ⊥) → (status ≡ ReadFault → ⊥) → bounded store room instance log answer
    → IsWithinRoom league room certificate
told-within store room instance log league certificate answer status good is no_file no_fault given =
    (bounded-known store room instance log good.first good.second league certificate answer good.first_known
    good.second_known good.says_league good.says_certificate (λ file. no_file (sym is ∙ file))
    (λ fault. no_fault (sym is ∙ fault)) given).within

within-room : (run : Run) → Answered run → (instance log : List ℕ) → run.command ≡ Some (Bound instance log)
    → (league : Instance) (certificate : Certificate)
    → IsWellFormedCertificate run.store instance log league certificate
    → (run.ended ≡ Yes) ⊎ (run.ended ≡ No) → IsWithinRoom league run.room certificate
within-room run answered instance log is league certificate good (inl ended) =
    let whole = writes-as run (Bound instance log) Yes answered is ended (λ same. cc) (λ same. cc) in
    told-within run.store run.room instance log league certificate whole.answer Yes good whole.status_is (λ same. cc)
    (λ same. cc) whole.given
within-room run answered instance log is league certificate good (inr ended) =
    let whole = writes-as run (Bound instance log) No answered is ended (λ same. cc) (λ same. cc) in
    told-within run.store run.room instance log league certificate whole.answer No good whole.status_is (λ same. cc)
    (λ same. cc) whole.given

pub bounds : (run : Run) → Answered run → Bounds run
bounds run answered instance log is = record {
  bounded = λ league certificate good works.
      writes run (instance ∷ log ∷ []) (Bound instance log) (IsBoundVerdict league run.room certificate) answered is works
      (λ answer given. bounded-well_formed run.store run.room instance log league certificate answer good works.store given);
  certified = λ league said ended.
      let whole = writes-as run (Bound instance log) Yes answered is ended (λ same. cc) (λ same. cc) in
      bounded-certified run.store run.room instance log said.bytes league whole.answer run.output said.known
      said.says_league whole.status_is whole.written whole.given;
  within = λ league certificate good ended. within-room run answered instance log is league certificate good ended;
}
