-- How the stages of `bound` make an answer.
use Rattle.std.proofs.Common.{◌≡◌, ℕ, ◌+◌, ◌≤◌, List, length, Option, Ok, Err, codes, inl, inr, ap, sym, ◌∙◌, Result}
use Rattle.std.proofs.Common.{refl, subst}
use Rattle.robin_io.specs.Outside.{Store}
use Rattle.league.specs.Instance.{Instance}
use Rattle.robinx.specs.Pieces.{pieces}
use Rattle.robinx.specs.InstanceFile.{instance_of}
use Rattle.robinx.specs.declared.instance.TheConstants.{INSTANCE_LIMIT}
use Rattle.answers.specs.Reply.{Answer}
use Rattle.answers.specs.SeenReply.{Answers, MatchStage}
use Rattle.answers.specs.Stages.{IsFile, IsUnread, Outcome, takes}
use Rattle.answers.specs.declared.reply.NoValue.{NoValue}
use Rattle.answers.specs.declared.reply.NoValue.TheVariants.{Refused, Memory, Room}
use Rattle.answers.specs.declared.status.Status.TheVariants.{Yes}
use Rattle.answers.proofs.StageLemmas.{says-value}
use Rattle.refutation.specs.Logs.{Fault}
use Rattle.refutation.specs.declared.verdict.Verdict.{Verdict}
use Rattle.refutation.specs.declared.verdict.Verdict.TheVariants.{Accepted, Rejected}
use Rattle.command_check.specs.Check.{most_log_bytes}
use Rattle.bound_rows.specs.BoundRows.{bound_size}
use Rattle.bound_rows.specs.Faithful.{IsLowerBound}
use Rattle.bounds.specs.Certificates.{certificate_of}
use Rattle.bounds.specs.declared.certificate.Certificate.{Certificate}
use Rattle.command_prove.specs.Bound.{IsBoundVerdict, IsWithinRoom, ReadCertificate, bound_answer, bound_verdict, bounded}
use Rattle.command_prove.specs.Bound.{has_few_terms, says_certificate}
use Rattle.command_prove.specs.Faults.{IsMalformed}
use Rattle.command_prove.specs.Measured.{IsUnmeasured}
use Rattle.command_prove.proofs.MeasureLemmas.{unmeasured-ends}
use Rattle.encoding.specs.Limit.{most_terms}

-- ---- stages

-- a stage that refuses so refuses as is allowed
pub stage-wider : {X : Type 0} (goes : X → Type 0) (narrow wide : Outcome)
    → ((answer : Answer) → narrow answer → wide answer) → (result : Result X NoValue)
    → MatchStage result goes narrow → MatchStage result goes wide
stage-wider goes narrow wide wider (Ok x) given = given
stage-wider goes narrow wide wider (Err (Refused refusal)) given = wider _ given
stage-wider goes narrow wide wider (Err Memory) given = tt
stage-wider goes narrow wide wider (Err Room) given = tt

-- what a stage ends with is no matter of what it would have gone on with
pub stage-end : {X : Type 0} (goes : X → Type 0) (ends : Outcome) (end : NoValue) → Answers ends (Err end)
    → MatchStage (Err end) goes ends
stage-end goes ends (Refused refusal) given = given
stage-end goes ends Memory given = tt
stage-end goes ends Room given = tt

-- the stages behind the instance file, whose bytes were so many
abbrev pub log_stages : Store → Option ℕ → List ℕ → ℕ → Instance → Outcome
log_stages store room log front league =
    has_few_terms league (λ few. takes (codes "log") (store.contents log) most_log_bytes
    (store.took_more (front + most_log_bytes)) (store.failed log)
    (λ bytes. says_certificate (certificate_of bytes) (IsBoundVerdict league room)))

-- the league is refused
pub bounded-unmeasured : (store : Store) (room : Option ℕ) (instance log : List ℕ) (answer : Answer)
    → IsUnmeasured store instance answer → bounded store room instance log answer
bounded-unmeasured store room instance log answer ends =
    unmeasured-ends store instance
    (λ first league. takes (codes "log") (store.contents log) most_log_bytes
    (store.took_more (length first + most_log_bytes)) (store.failed log)
    (λ bytes. says_certificate (certificate_of bytes) (IsBoundVerdict league room))) answer ends

module _ (store : Store) (room : Option ℕ) (instance log first : List ℕ) (league : Instance)
    (is_first : IsFile (store.contents instance) INSTANCE_LIMIT first) (says_league : instance_of (pieces first) ≡ Ok league)
  where
    -- the instance file is read and says a league: what comes then is the answer
    after-league : (answer : Answer) → log_stages store room log (length first) league answer
        → bounded store room instance log answer
    after-league answer rest = inl (
      first,
      is_first,
      says-value (codes "instance") (instance_of (pieces first)) league
          (log_stages store room log (length first)) answer says_league rest,
    )

    -- the certificate isn't read
    pub bounded-unread : bound_size league ≤ most_terms → (answer : Answer)
        → IsUnread (codes "log") (store.contents log) most_log_bytes (store.took_more (length first + most_log_bytes))
        (store.failed log) answer → bounded store room instance log answer
    bounded-unread small answer unread = after-league answer (inl (small, inr unread))

    -- the log is read: the rest is the answer to what it says
    pub bounded-last : (second : List ℕ) → bound_size league ≤ most_terms
        → IsFile (store.contents log) most_log_bytes second → (answer : Answer)
        → says_certificate (certificate_of second) (IsBoundVerdict league room) answer
        → bounded store room instance log answer
    bounded-last second small is_second answer last =
        after-league answer (inl (small, inl (second, is_second, last)))

    -- the certificate has a fault of form
    pub bounded-malformed : (second : List ℕ) → bound_size league ≤ most_terms
        → IsFile (store.contents log) most_log_bytes second → (answer : Answer)
        → IsMalformed (certificate_of second) answer → bounded store room instance log answer
    bounded-malformed second small is_second answer (fault, said, is) =
        bounded-last second small is_second answer
        (subst (λ (r : Result Certificate Fault). says_certificate r (IsBoundVerdict league room) answer) (sym said) is)

-- the files say a certificate: its verdict is the answer
pub bounded-said : (store : Store) (room : Option ℕ) (instance log : List ℕ) (league : Instance)
    (certificate : Certificate) → ReadCertificate store instance log league certificate → (answer : Answer)
    → IsBoundVerdict league room certificate answer → bounded store room instance log answer
bounded-said store room instance log league certificate read answer verdict =
    bounded-last store room instance log read.first league read.first_file read.says_league read.second read.small
    read.second_file answer
    (subst (λ (r : Result Certificate Fault). says_certificate r (IsBoundVerdict league room) answer)
    (sym read.says_certificate) verdict)

-- ---- the verdict

is_accepted : (bound steps : ℕ) (verdict : Verdict) → (bound_answer bound steps verdict).status ≡ Yes
    → verdict ≡ Accepted
is_accepted bound steps Accepted accepted = refl
is_accepted bound steps (Rejected step cause) accepted = cc

-- the verdict on a certificate, from what was judged
pub verdict-given : (league : Instance) (room : Option ℕ) (certificate : Certificate) (verdict : Verdict)
    (answer : Answer) → verdict ≡ bound_verdict league certificate.bound certificate.log
    → IsWithinRoom league room certificate → (verdict ≡ Accepted → IsLowerBound league certificate.bound)
    → answer ≡ bound_answer certificate.bound (length certificate.log) verdict
    → IsBoundVerdict league room certificate answer
verdict-given league room certificate verdict answer judged within holds is = record {
  verdict = is ∙ ap (bound_answer certificate.bound (length certificate.log)) judged;
  within = within;
  holds = λ accepted. holds (is_accepted certificate.bound (length certificate.log) verdict
      (sym (ap (λ (a : Answer). a.status) is) ∙ accepted));
}
