-- What `bound` answers: its stages in their order, and the verdict on a certificate.
use Rattle.std.specs.Prelude.{◌≡◌, ℕ, ◌-◌, ◌<◌, ◌≤◌, ◌⊎◌, ◌==◌, if◌then◌else◌, List, ◌++◌, length, codes, decimal}
use Rattle.std.specs.Prelude.{Option, Some, Result, Ok, Err}
use Rattle.robin_io.specs.Outside.{Store}
use Rattle.league.specs.Instance.{Instance}
use Rattle.robinx.specs.Pieces.{pieces}
use Rattle.robinx.specs.InstanceFile.{instance_of}
use Rattle.robinx.specs.declared.instance.TheConstants.{INSTANCE_LIMIT}
use Rattle.answers.specs.Reply.{Answer, log_malformed, too_large}
use Rattle.answers.specs.Stages.{◌>>=◌, IsFile, Outcome, reads, says}
use Rattle.answers.specs.declared.status.Status.TheVariants.{Yes}
use Rattle.refutation.specs.Logs.{Fault}
use Rattle.refutation.specs.Steps.{Step}
use Rattle.refutation.specs.Verdict.{verdict_of}
use Rattle.refutation.specs.declared.verdict.Verdict.{Verdict}
use Rattle.refutation.specs.declared.verdict.Verdict.TheVariants.{Accepted, Rejected}
use Rattle.refutation_check.specs.Room.{KeepsRoom, PassesRoom}
use Rattle.command_check.specs.Check.{most_log_bytes, verdict_answer}
use Rattle.bound_rows.specs.BoundRows.{bound_rows, bound_size, bound_vars}
use Rattle.bound_rows.specs.Faithful.{IsLowerBound}
use Rattle.bounds.specs.Certificates.{certificate_of}
use Rattle.bounds.specs.declared.certificate.Certificate.{Certificate}
use Rattle.encoding.specs.Limit.{most_terms}

-- ---- verdicts

-- The verdict on a log that is to prove that no objective is below a bound: that over the bound rows of one less. That
-- none is below 0 needs no proof.
abbrev pub bound_verdict : Instance → ℕ → List Step → Verdict
bound_verdict league bound steps =
    if bound == 0 then Accepted else verdict_of (bound_rows league (bound - 1)) (bound_vars league) steps

-- The steps of a certificate keep to a limit, or some first of them pass it. At a bound of 0 none is judged.
abbrev pub IsWithinRoom : Instance → Option ℕ → Certificate → Type 0
IsWithinRoom league room certificate =
    1 ≤ certificate.bound
    → KeepsRoom (bound_rows league (certificate.bound - 1)) (bound_vars league) room certificate.log

abbrev pub IsPastRoom : Instance → Option ℕ → Certificate → Type 0
IsPastRoom league room certificate =
    (1 ≤ certificate.bound)
    × PassesRoom (bound_rows league (certificate.bound - 1)) (bound_vars league) room certificate.log

-- the text of a verdict on a log of so many steps; where the log is rejected, that of `check`
abbrev pub bound_answer : ℕ → ℕ → Verdict → Answer
bound_answer bound steps Accepted = record {
  status = Yes;
  text = codes "accepted bound " ++ (decimal bound ++ (codes " steps " ++ (decimal steps ++ codes "\n")));
}
bound_answer bound steps (Rejected step cause) = verdict_answer steps (Rejected step cause)

-- The verdict on a certificate. It is said only where the steps keep to a limit. Where it says yes, every schedule that
-- the league accepts has an objective of at least the bound.
pub record IsBoundVerdict (league : Instance) (room : Option ℕ) (certificate : Certificate) (answer : Answer) : Type 0
  where
    pub verdict : answer
        ≡ bound_answer certificate.bound (length certificate.log)
        (bound_verdict league certificate.bound certificate.log)
    pub within : IsWithinRoom league room certificate
    pub holds : answer.status ≡ Yes → IsLowerBound league certificate.bound

-- ---- stages

-- the stage that goes on where the bound rows of the league haven't too many terms, which is the same for every bound
abbrev pub has_few_terms : Instance → (Unit {0} → Outcome) → Outcome
has_few_terms league next answer =
    ((bound_size league ≤ most_terms) × next tt answer)
    ⊎ ((most_terms < bound_size league) × (answer ≡ too_large (bound_size league)))

-- the stage that takes what a certificate's text says: the certificate, or its first fault of form
abbrev pub says_certificate : Result Certificate Fault → (Certificate → Outcome) → Outcome
says_certificate (Ok certificate) next answer = next certificate answer
says_certificate (Err fault) next answer = answer ≡ log_malformed fault.0 fault.1

-- `bound`, over what a store shows, where the steps of the log may take so many bytes
abbrev pub bounded : Store → Option ℕ → List ℕ → List ℕ → Outcome
bounded store room instance log = do
  first ← reads store (codes "instance") instance INSTANCE_LIMIT 0
  league ← says (codes "instance") (instance_of (pieces first))
  few ← has_few_terms league
  second ← reads store (codes "log") log most_log_bytes (length first)
  certificate ← says_certificate (certificate_of second)
  IsBoundVerdict league room certificate

-- ---- want of room

-- Two files within their limits, whose bytes are known or not, say a league whose bound rows aren't too many and a
-- certificate.
pub record ReadCertificate (store : Store) (instance log : List ℕ) (league : Instance) (certificate : Certificate) : Type 0
  where
    pub first : List ℕ
    pub second : List ℕ
    pub first_file : IsFile (store.contents instance) INSTANCE_LIMIT first
    pub second_file : IsFile (store.contents log) most_log_bytes second
    pub says_league : instance_of (pieces first) ≡ Ok league
    pub small : bound_size league ≤ most_terms
    pub says_certificate : certificate_of second ≡ Ok certificate

-- Two files say a league and a certificate, of which some first steps pass a limit.
pub record LacksRoom (store : Store) (room : Option ℕ) (instance log : List ℕ) : Type 0 where
  pub league : Instance
  pub certificate : Certificate
  pub read : ReadCertificate store instance log league certificate
  pub past : IsPastRoom league room certificate

-- ---- a run

-- two files within their limits whose bytes are known, which say a league whose bound rows aren't too many and a
-- certificate
pub record IsWellFormedCertificate
    (store : Store)
    (instance log : List ℕ)
    (league : Instance)
    (certificate : Certificate)
    : Type 0 where
  pub first : List ℕ
  pub second : List ℕ
  pub first_known : store.contents instance ≡ Some first
  pub second_known : store.contents log ≡ Some second
  pub first_within : length first ≤ INSTANCE_LIMIT
  pub second_within : length second ≤ most_log_bytes
  pub says_league : instance_of (pieces first) ≡ Ok league
  pub small : bound_size league ≤ most_terms
  pub says_certificate : certificate_of second ≡ Ok certificate
