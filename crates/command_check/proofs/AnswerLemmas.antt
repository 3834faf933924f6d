-- What follows from an answer of `check`.
use Rattle.std.proofs.Common.{◌∷◌, [], ◌≡◌, ℕ, ◌+◌, ◌<◌, ◌≤◌, List, length, Option, Some, Result, Ok, Err, codes, ap, arith, inl, inr, refl, sym, subst, ◌∙◌}
use Rattle.std.specs.Prelude.{IfSome}
use Rattle.robin_io.specs.Outside.{Store}
use Rattle.rows.specs.Rows.{Row}
use Rattle.league.specs.Instance.{Instance}
use Rattle.robinx.specs.Pieces.{pieces}
use Rattle.robinx.specs.InstanceFile.{instance_of}
use Rattle.robinx.specs.Walk as forms
use Rattle.robinx.specs.declared.instance.TheConstants.{INSTANCE_LIMIT}
use Rattle.answers.specs.Reply.{Answer, too_large}
use Rattle.answers.specs.Stages.{IsFile, NoneFails, Outcome, says, takes}
use Rattle.answers.specs.declared.status.Status.{Status}
use Rattle.answers.specs.declared.status.Status.TheVariants.{Yes, File, ReadFault}
use Rattle.answers.proofs.StageLemmas.{first-works, says-known, second-works, takes-known, takes-yes}
use Rattle.encoding.specs.Encoding.{encoding_size, rows_of}
use Rattle.encoding.specs.Variables.{var_count}
use Rattle.refutation.specs.Steps.{Step}
use Rattle.refutation.specs.Logs.{Fault, log_of}
use Rattle.refutation_check.specs.Room.{KeepsRoom}
use Rattle.decoding.specs.Excluded.{NoneAccepted}
use Rattle.command_check.specs.Check.{IsVerdict, IsWellFormedLog, checked, encodes, most_log_bytes, says_log}
use Rattle.encoding.specs.Limit.{most_terms}

-- the stages behind the instance file, whose bytes were so many
abbrev pub log_stages : Store → Option ℕ → List ℕ → ℕ → Instance → Outcome
log_stages store room log front league =
    encodes league (λ rows. takes (codes "log") (store.contents log) most_log_bytes (store.took_more (front + most_log_bytes)) (store.failed log) (λ bytes. says_log (log_of bytes) (IsVerdict league rows room)))

-- rows that aren't too many are gone on with, and others end the run, whatever the log is
pub encodes-small : (league : Instance) (next : List Row → Outcome) (answer : Answer) → encoding_size league ≤ most_terms → encodes league next answer → next (rows_of league) answer
encodes-small league next answer small (inl h) = h.1
encodes-small league next answer small (inr h) = let large : most_terms < encoding_size league = h.0 in absurd (omega arith)

pub encodes-large : (league : Instance) (next : List Row → Outcome) (answer : Answer) → most_terms < encoding_size league → encodes league next answer → answer ≡ too_large (encoding_size league)
encodes-large league next answer large (inl h) = let small : encoding_size league ≤ most_terms = h.0 in absurd (omega arith)
encodes-large league next answer large (inr h) = h.1

pub said-known : (said : Result (List Step) Fault) (steps : List Step) (next : List Step → Outcome) (answer : Answer) → said ≡ Ok steps → says_log said next answer → next steps answer
said-known said steps next answer is given = subst (λ r. says_log r next answer) is given

-- two files that are known and within their limits, at which nothing fails, the first of which says a league whose rows
-- aren't too many: the answer is that to what the second says
pub checked-at_log : (store : Store) (room : Option ℕ) (instance log first second : List ℕ) (league : Instance) (answer : Answer)
    → store.contents instance ≡ Some first → store.contents log ≡ Some second → length first ≤ INSTANCE_LIMIT → length second ≤ most_log_bytes → instance_of (pieces first) ≡ Ok league → encoding_size league ≤ most_terms → (store.failed instance → ⊥) → (store.failed log → ⊥)
    → checked store room instance log answer → says_log (log_of second) (IsVerdict league (rows_of league) room) answer
checked-at_log store room instance log first second league answer first_known second_known first_within second_within says_league small first_works second_works given =
    let at_instance : says (codes "instance") (instance_of (pieces first)) (log_stages store room log (length first)) answer =
    takes-known (codes "instance") (store.contents instance) INSTANCE_LIMIT (store.took_more INSTANCE_LIMIT) (store.failed instance) (λ bytes. says (codes "instance") (instance_of (pieces bytes)) (log_stages store room log (length bytes))) answer first first_known first_within first_works given in
    let at_league : log_stages store room log (length first) league answer = says-known (codes "instance") (instance_of (pieces first)) league (log_stages store room log (length first)) answer says_league at_instance in
    let long : Type 0 = store.took_more (length first + most_log_bytes) in
    let at_log : takes (codes "log") (store.contents log) most_log_bytes long (store.failed log) (λ bytes. says_log (log_of bytes) (IsVerdict league (rows_of league) room)) answer =
    encodes-small league (λ rows. takes (codes "log") (store.contents log) most_log_bytes long (store.failed log) (λ bytes. says_log (log_of bytes) (IsVerdict league rows room))) answer small at_league in
    takes-known (codes "log") (store.contents log) most_log_bytes long (store.failed log) (λ bytes. says_log (log_of bytes) (IsVerdict league (rows_of league) room)) answer second second_known second_within second_works at_log

-- a well-formed log at which nothing fails gets its verdict
pub checked-well_formed : (store : Store) (room : Option ℕ) (instance log : List ℕ) (league : Instance) (steps : List Step) (answer : Answer)
    → IsWellFormedLog store instance log league steps → NoneFails store (instance ∷ log ∷ []) → checked store room instance log answer → IsVerdict league (rows_of league) room steps answer
checked-well_formed store room instance log league steps answer good works given =
    said-known (log_of good.second) steps (IsVerdict league (rows_of league) room) answer good.says_steps
    (checked-at_log store room instance log good.first good.second league answer good.first_known good.second_known good.first_within good.second_within good.says_league good.small (first-works store instance (log ∷ []) works) (second-works store instance log [] works) given)

said-yes : (league : Instance) (rows : List Row) (room : Option ℕ) (said : Result (List Step) Fault) (answer : Answer) → answer.status ≡ Yes → says_log said (IsVerdict league rows room) answer → NoneAccepted league
said-yes league rows room (Ok steps) answer accepted verdict = verdict.refuted accepted
said-yes league rows room (Err fault) answer accepted is = let same : File ≡ Yes = sym (ap (λ (a : Answer). a.status) is) ∙ accepted in cc

encoded-yes : (league : Instance) (room : Option ℕ) (known : Option (List ℕ)) (long failed : Type 0) (answer : Answer) → answer.status ≡ Yes
    → encodes league (λ rows. takes (codes "log") known most_log_bytes long failed (λ bytes. says_log (log_of bytes) (IsVerdict league rows room))) answer → NoneAccepted league
encoded-yes league room known long failed answer accepted (inl h) =
    let read = takes-yes (codes "log") known most_log_bytes long failed (λ bytes. says_log (log_of bytes) (IsVerdict league (rows_of league) room)) answer accepted h.1 in
    said-yes league (rows_of league) room (log_of read.0) answer accepted read.2
encoded-yes league room known long failed answer accepted (inr h) = let same : File ≡ Yes = sym (ap (λ (a : Answer). a.status) h.1) ∙ accepted in cc

-- where the answer is yes, the league of the instance file accepts no list of games
pub checked-yes : (store : Store) (room : Option ℕ) (instance log bytes : List ℕ) (league : Instance) (answer : Answer)
    → store.contents instance ≡ Some bytes → instance_of (pieces bytes) ≡ Ok league → answer.status ≡ Yes → checked store room instance log answer → NoneAccepted league
checked-yes store room instance log bytes league answer known says_league accepted given =
    let next : List ℕ → Outcome = λ first. says (codes "instance") (instance_of (pieces first)) (log_stages store room log (length first)) in
    let read = takes-yes (codes "instance") (store.contents instance) INSTANCE_LIMIT (store.took_more INSTANCE_LIMIT) (store.failed instance) next answer accepted given in
    let same : read.0 ≡ bytes = subst (λ (k : Option (List ℕ)). IfSome k (λ file. read.0 ≡ file)) known read.1.same in
    let at_instance : next bytes answer = subst (λ (b : List ℕ). next b answer) same read.2 in
    encoded-yes league room (store.contents log) (store.took_more (length bytes + most_log_bytes)) (store.failed log) answer accepted
    (says-known (codes "instance") (instance_of (pieces bytes)) league (log_stages store room log (length bytes)) answer says_league at_instance)

-- ---- an answer that isn't a refusal

-- an answer has a status that is that of no refusal
abbrev pub IsAnswered : Answer → Type 0
IsAnswered answer = (answer.status ≡ File → ⊥) × (answer.status ≡ ReadFault → ⊥)

pub reads-answered : (which : List ℕ) (known : Option (List ℕ)) (limit : ℕ) (long failed : Type 0)
    (next : List ℕ → Outcome) (answer : Answer) → IsAnswered answer → takes which known limit long failed next answer
    → (bytes : List ℕ) × IsFile known limit bytes × next bytes answer
reads-answered which known limit long failed next answer is (inl read) = read
reads-answered which known limit long failed next answer is (inr (inl h)) =
    absurd (is.0 (ap (λ (a : Answer). a.status) h.2))
reads-answered which known limit long failed next answer is (inr (inr h)) =
    absurd (is.1 (ap (λ (a : Answer). a.status) h.1))

pub answered-as : (answer : Answer) (status : Status) → answer.status ≡ status → (status ≡ File → ⊥)
    → (status ≡ ReadFault → ⊥) → IsAnswered answer
answered-as answer status is no_file no_fault = (λ file. no_file (sym is ∙ file), λ fault. no_fault (sym is ∙ fault))

pub says-answered : {X : Type 0} (which : List ℕ) (said : Result X forms.Fault) (next : X → Outcome) (answer : Answer)
    → IsAnswered answer → says which said next answer → (x : X) × (said ≡ Ok x) × next x answer
says-answered which (Ok x) next answer is given = (x, refl, given)
says-answered which (Err fault) next answer is given = absurd (is.0 (ap (λ (a : Answer). a.status) given))

pub log-answered : (said : Result (List Step) Fault) (next : List Step → Outcome) (answer : Answer) → IsAnswered answer
    → says_log said next answer → (steps : List Step) × next steps answer
log-answered (Ok steps) next answer is given = (steps, given)
log-answered (Err fault) next answer is given = absurd (is.0 (ap (λ (a : Answer). a.status) given))

-- ---- files that are known

pub same_bytes : (known : Option (List ℕ)) (limit : ℕ) (read bytes : List ℕ) → IsFile known limit read
    → known ≡ Some bytes → read ≡ bytes
same_bytes known limit read bytes file is = subst (λ (k : Option (List ℕ)). IfSome k (λ b. read ≡ b)) is file.same

pub same_value : {X E : Type 0} (said : Result X E) (x y : X) → said ≡ Ok x → said ≡ Ok y → x ≡ y
same_value said x y one other = cc

-- where the answer is a verdict, the steps of the log keep to the limit
pub checked-kept : (store : Store) (room : Option ℕ) (instance log : List ℕ) (league : Instance) (steps : List Step)
    (answer : Answer) → IsWellFormedLog store instance log league steps → IsAnswered answer
    → checked store room instance log answer → KeepsRoom (rows_of league) (var_count league) room steps
checked-kept store room instance log league steps answer good answered given =
    let verdict : List Step → Outcome = IsVerdict league (rows_of league) room in
    let next : List ℕ → Outcome =
    λ first. says (codes "instance") (instance_of (pieces first)) (log_stages store room log (length first)) in
    let first = reads-answered (codes "instance") (store.contents instance) INSTANCE_LIMIT (store.took_more INSTANCE_LIMIT)
    (store.failed instance) next answer answered given in
    let first_same : first.0 ≡ good.first =
    same_bytes (store.contents instance) INSTANCE_LIMIT first.0 good.first first.1 good.first_known in
    let front : ℕ = length good.first in
    let at_league : log_stages store room log front league answer =
    says-known (codes "instance") (instance_of (pieces good.first)) league (log_stages store room log front) answer
    good.says_league (subst (λ (b : List ℕ). next b answer) first_same first.2) in
    let long : Type 0 = store.took_more (front + most_log_bytes) in
    let second = reads-answered (codes "log") (store.contents log) most_log_bytes long (store.failed log)
    (λ bytes. says_log (log_of bytes) verdict) answer answered
    (encodes-small league (λ rows. takes (codes "log") (store.contents log) most_log_bytes long (store.failed log)
    (λ bytes. says_log (log_of bytes) (IsVerdict league rows room))) answer good.small at_league) in
    let second_same : second.0 ≡ good.second =
    same_bytes (store.contents log) most_log_bytes second.0 good.second second.1 good.second_known in
    (said-known (log_of good.second) steps verdict answer good.says_steps
    (subst (λ (b : List ℕ). says_log (log_of b) verdict answer) second_same second.2)).within
