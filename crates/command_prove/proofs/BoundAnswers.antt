-- What follows from an answer of `bound`.
use Rattle.std.proofs.Common.{◌∷◌, [], ◌≡◌, ℕ, ◌+◌, ◌<◌, ◌≤◌, List, length, Option, Some, Result, Ok, codes, ap, arith}
use Rattle.std.proofs.Common.{inl, inr, subst}
use Rattle.std.specs.Prelude.{IfSome}
use Rattle.robin_io.specs.Outside.{Store}
use Rattle.league.specs.Instance.{Instance}
use Rattle.robinx.specs.Pieces.{pieces}
use Rattle.robinx.specs.InstanceFile.{instance_of}
use Rattle.robinx.specs.declared.instance.TheConstants.{INSTANCE_LIMIT}
use Rattle.answers.specs.Reply.{Answer}
use Rattle.answers.specs.Stages.{NoneFails, Outcome, says, takes}
use Rattle.answers.specs.declared.status.Status.TheVariants.{File, ReadFault}
use Rattle.answers.proofs.StageLemmas.{first-works, says-known, second-works, takes-known}
use Rattle.refutation.specs.Logs.{Fault}
use Rattle.command_check.specs.Check.{most_log_bytes}
use Rattle.bound_rows.specs.BoundRows.{bound_size}
use Rattle.bounds.specs.Certificates.{certificate_of}
use Rattle.bounds.specs.declared.certificate.Certificate.{Certificate}
use Rattle.command_prove.specs.Bound.{IsBoundVerdict, IsWellFormedCertificate, bounded, has_few_terms}
use Rattle.command_prove.specs.Bound.{says_certificate}
use Rattle.command_prove.proofs.BoundStages.{log_stages}
use Rattle.encoding.specs.Limit.{most_terms}

-- where the bound rows are few enough the run goes on
pub few-small : (league : Instance) (next : Unit {0} → Outcome) (answer : Answer) → bound_size league ≤ most_terms
    → has_few_terms league next answer → next tt answer
few-small league next answer small (inl h) = h.1
few-small league next answer small (inr h) =
    let large : most_terms < bound_size league = h.0 in absurd (omega arith)

-- where the run didn't refuse the bound rows it goes on, too
pub few-yes : (league : Instance) (next : Unit {0} → Outcome) (answer : Answer) → (answer.status ≡ File → ⊥)
    → has_few_terms league next answer → next tt answer
few-yes league next answer goes (inl h) = h.1
few-yes league next answer goes (inr h) = absurd (goes (ap (λ (a : Answer). a.status) h.1))

said-known : (said : Result Certificate Fault) (certificate : Certificate) (next : Certificate → Outcome)
    (answer : Answer) → said ≡ Ok certificate → says_certificate said next answer → next certificate answer
said-known said certificate next answer is given =
    subst (λ (r : Result Certificate Fault). says_certificate r next answer) is given

-- a well-formed certificate at which nothing fails gets its verdict
pub bounded-well_formed : (store : Store) (room : Option ℕ)
    (instance log : List ℕ) (league : Instance) (certificate : Certificate) (answer : Answer)
    → IsWellFormedCertificate store instance log league certificate → NoneFails store (instance ∷ log ∷ [])
    → bounded store room instance log answer → IsBoundVerdict league room certificate answer
bounded-well_formed store room instance log league certificate answer good works given =
    let front : ℕ = length good.first in
    let next : List ℕ → Outcome = λ first. says (codes "instance") (instance_of (pieces first))
    (log_stages store room log (length first)) in
    let at_instance : next good.first answer =
    takes-known (codes "instance") (store.contents instance) INSTANCE_LIMIT (store.took_more INSTANCE_LIMIT) (store.failed instance) next
    answer good.first good.first_known good.first_within (first-works store instance (log ∷ []) works) given in
    let at_league : log_stages store room log front league answer =
    says-known (codes "instance") (instance_of (pieces good.first)) league
    (log_stages store room log front) answer good.says_league at_instance in
    let judged : List ℕ → Outcome = λ bytes. says_certificate (certificate_of bytes) (IsBoundVerdict league room) in
    let at_log : takes (codes "log") (store.contents log) most_log_bytes (store.took_more (front + most_log_bytes)) (store.failed log)
    judged answer =
    few-small league (λ few. takes (codes "log") (store.contents log) most_log_bytes (store.took_more (front + most_log_bytes))
    (store.failed log) judged) answer good.small at_league in
    let at_certificate : judged good.second answer =
    takes-known (codes "log") (store.contents log) most_log_bytes (store.took_more (front + most_log_bytes)) (store.failed log) judged
    answer good.second good.second_known good.second_within (second-works store instance log [] works) at_log in
    said-known (certificate_of good.second) certificate (IsBoundVerdict league room) answer good.says_certificate
    at_certificate

-- a file that wasn't refused was read
pub reads-goes : (which : List ℕ) (known : Option (List ℕ)) (limit : ℕ) (long failed : Type 0) (next : List ℕ → Outcome)
    (answer : Answer) (file : List ℕ) → known ≡ Some file → (answer.status ≡ File → ⊥)
    → (answer.status ≡ ReadFault → ⊥) → takes which known limit long failed next answer → next file answer
reads-goes which known limit long failed next answer file is no_file no_fault (inl read) =
    let same : read.0 ≡ file = subst (λ (k : Option (List ℕ)). IfSome k (λ bytes. read.0 ≡ bytes)) is read.1.same in
    subst (λ (b : List ℕ). next b answer) same read.2
reads-goes which known limit long failed next answer file is no_file no_fault (inr (inl h)) =
    absurd (no_file (ap (λ (a : Answer). a.status) h.2))
reads-goes which known limit long failed next answer file is no_file no_fault (inr (inr h)) =
    absurd (no_fault (ap (λ (a : Answer). a.status) h.1))

-- files that are known, where none is refused: the certificate gets its verdict
pub bounded-known : (store : Store) (room : Option ℕ)
    (instance log first second : List ℕ) (league : Instance) (certificate : Certificate) (answer : Answer)
    → store.contents instance ≡ Some first → store.contents log ≡ Some second → instance_of (pieces first) ≡ Ok league
    → certificate_of second ≡ Ok certificate → (answer.status ≡ File → ⊥) → (answer.status ≡ ReadFault → ⊥)
    → bounded store room instance log answer → IsBoundVerdict league room certificate answer
bounded-known store room instance log first second league certificate answer first_known second_known says_league says_bound
    no_file no_fault given =
    let front : ℕ = length first in
    let next : List ℕ → Outcome = λ bytes. says (codes "instance") (instance_of (pieces bytes))
    (log_stages store room log (length bytes)) in
    let at_instance : next first answer =
    reads-goes (codes "instance") (store.contents instance) INSTANCE_LIMIT (store.took_more INSTANCE_LIMIT) (store.failed instance)
    next answer first first_known no_file no_fault given in
    let at_league : log_stages store room log front league answer =
    says-known (codes "instance") (instance_of (pieces first)) league
    (log_stages store room log front) answer says_league at_instance in
    let judged : List ℕ → Outcome = λ bytes. says_certificate (certificate_of bytes) (IsBoundVerdict league room) in
    let at_log : takes (codes "log") (store.contents log) most_log_bytes (store.took_more (front + most_log_bytes)) (store.failed log)
    judged answer =
    few-yes league (λ few. takes (codes "log") (store.contents log) most_log_bytes (store.took_more (front + most_log_bytes))
    (store.failed log) judged) answer no_file at_league in
    let at_certificate : judged second answer =
    reads-goes (codes "log") (store.contents log) most_log_bytes (store.took_more (front + most_log_bytes)) (store.failed log) judged
    answer second second_known no_file no_fault at_log in
    said-known (certificate_of second) certificate (IsBoundVerdict league room) answer says_bound at_certificate
