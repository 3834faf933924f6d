-- What follows from an answer of `solve`.
use Rattle.std.proofs.Common.{◌∷◌, [], ◌≡◌, ℕ, List, Option, Some, None, Result, Ok, Err, codes, ap, inl, inr, sym, ◌∙◌}
use Rattle.robin_io.specs.Outside.{Store}
use Rattle.rows.specs.Rows.{Row}
use Rattle.robin_watch.proofs.LimitLemmas.{kept-unstopped}
use Rattle.robin_watch.specs.declared.budgets.Budgets.{Budgets}
use Rattle.league.specs.Instance.{Instance}
use Rattle.robinx.specs.Pieces.{pieces}
use Rattle.robinx.specs.InstanceFile.{instance_of}
use Rattle.robinx.specs.Walk.{Fault}
use Rattle.robinx.specs.declared.instance.TheConstants.{INSTANCE_LIMIT}
use Rattle.answers.specs.Reply.{Answer}
use Rattle.answers.specs.Stages.{NoneFails, Outcome, says, takes}
use Rattle.answers.specs.declared.status.Status.TheVariants.{Yes, File, Refuted, ReadFault, Spent}
use Rattle.decoding.specs.Excluded.{NoneAccepted}
use Rattle.answers.proofs.StageLemmas.{first-works, says-known, takes-known, takes-refuted}
use Rattle.encoding.specs.Encoding.{rows_of}
use Rattle.command_check.specs.Check.{encodes}
use Rattle.command_check.proofs.AnswerLemmas.{encodes-small}
use Rattle.command_solve.specs.Solve.{IsFound, IsFoundBy, IsWellFormedInstance, solved}

-- a well-formed instance at which nothing fails: the answer is what is found of its league
pub solved-well_formed : (store : Store) (instance : List ℕ) (budgets : Budgets) (may_stop : Type 0) (league : Instance) (answer : Answer)
    → IsWellFormedInstance store instance league → NoneFails store (instance ∷ []) → solved store instance budgets may_stop answer
    → IsFoundBy league budgets may_stop (rows_of league) answer
solved-well_formed store instance budgets may_stop league answer good works given =
    encodes-small league (IsFoundBy league budgets may_stop) answer good.small
    (says-known (codes "instance") (instance_of (pieces good.bytes)) league (λ l. encodes l (IsFoundBy l budgets may_stop)) answer good.says_league
    (takes-known (codes "instance") (store.contents instance) INSTANCE_LIMIT (store.took_more INSTANCE_LIMIT)
    (store.failed instance)
    (λ bytes. says (codes "instance") (instance_of (pieces bytes)) (λ l. encodes l (IsFoundBy l budgets may_stop))) answer
    good.bytes good.known good.within (first-works store instance [] works) given))

pub found-refuted : (league : Instance) (budgets : Budgets) (may_stop : Type 0) (rows : List Row) (answer : Answer)
    → answer.status ≡ Refuted → IsFound league budgets may_stop rows answer → NoneAccepted league
found-refuted league budgets may_stop rows answer ended found =
    elim found.found [
      | inl schedule ↦ let same : Yes ≡ Refuted = sym schedule.status ∙ ended in absurd (cc)
      | inr (inl refuted) ↦ refuted.none
      | inr (inr spent) ↦ let same : Spent ≡ Refuted = sym spent.status ∙ ended in absurd (cc)
    ]

encoded-refuted : (league : Instance) (budgets : Budgets) (may_stop : Type 0) (answer : Answer)
    → answer.status ≡ Refuted → encodes league (IsFoundBy league budgets may_stop) answer → NoneAccepted league
encoded-refuted league budgets may_stop answer ended (inl h) =
    found-refuted league h.1.kept may_stop (rows_of league) answer ended h.1.is_found
encoded-refuted league budgets may_stop answer ended (inr h) = let same : File ≡ Refuted = sym (ap (λ (a : Answer). a.status) h.1) ∙ ended in absurd (cc)

-- where the answer is a refutation, the league of the instance file accepts no list of games
pub solved-refuted : (store : Store) (instance bytes : List ℕ) (budgets : Budgets) (may_stop : Type 0) (league : Instance) (answer : Answer)
    → store.contents instance ≡ Some bytes → instance_of (pieces bytes) ≡ Ok league → answer.status ≡ Refuted → solved store instance budgets may_stop answer → NoneAccepted league
solved-refuted store instance bytes budgets may_stop league answer known says_league ended given =
    encoded-refuted league budgets may_stop answer ended
    (says-known (codes "instance") (instance_of (pieces bytes)) league (λ l. encodes l (IsFoundBy l budgets may_stop)) answer says_league
    (takes-refuted (codes "instance") (store.contents instance) INSTANCE_LIMIT (store.took_more INSTANCE_LIMIT) (store.failed instance) (λ first. says (codes "instance") (instance_of (pieces first)) (λ l. encodes l (IsFoundBy l budgets may_stop))) answer bytes known ended given))

-- ---- where nothing may stop the run

-- an answer is a spent budget only where the stage behind a file, or behind what a file says, gives it
pub takes-unspent : (which : List ℕ) (known : Option (List ℕ)) (limit : ℕ) (long failed : Type 0)
    (next : List ℕ → Outcome) (answer : Answer) → ((bytes : List ℕ) → next bytes answer → answer.status ≡ Spent → ⊥)
    → takes which known limit long failed next answer → answer.status ≡ Spent → ⊥
takes-unspent which known limit long failed next answer unspent (inl read) ended = unspent read.0 read.2 ended
takes-unspent which known limit long failed next answer unspent (inr (inl h)) ended =
    let same : File ≡ Spent = sym (ap (λ (a : Answer). a.status) h.2) ∙ ended in cc
takes-unspent which known limit long failed next answer unspent (inr (inr h)) ended =
    let same : ReadFault ≡ Spent = sym (ap (λ (a : Answer). a.status) h.1) ∙ ended in cc

pub says-unspent : {A : Type 0} (which : List ℕ) (said : Result A Fault) (next : A → Outcome) (answer : Answer)
    → ((x : A) → next x answer → answer.status ≡ Spent → ⊥) → says which said next answer → answer.status ≡ Spent → ⊥
says-unspent which (Ok x) next answer unspent given ended = unspent x given ended
says-unspent which (Err fault) next answer unspent given ended =
    let same : File ≡ Spent = sym (ap (λ (a : Answer). a.status) given) ∙ ended in cc

found-unlimited : (league : Instance) (budgets : Budgets) (may_stop : Type 0) (rows : List Row) (answer : Answer)
    → budgets.conflicts ≡ None → IsFound league budgets may_stop rows answer → answer.status ≡ Spent → ⊥
found-unlimited league budgets may_stop rows answer none found ended =
    elim found.found [
      | inl schedule ↦ let same : Yes ≡ Spent = sym schedule.status ∙ ended in cc
      | inr (inl refuted) ↦ let same : Refuted ≡ Spent = sym refuted.status ∙ ended in cc
      | inr (inr spent) ↦ let same = sym none ∙ spent.budget in cc
    ]

-- without a budget of conflicts what is found of a league is no budget that is spent
pub found_by-unlimited : (league : Instance) (budgets : Budgets) (may_stop : Type 0) (rows : List Row)
    (answer : Answer) → budgets.conflicts ≡ None → (may_stop → ⊥) → IsFoundBy league budgets may_stop rows answer
    → answer.status ≡ Spent → ⊥
found_by-unlimited league budgets may_stop rows answer none never found ended =
    found-unlimited league found.kept may_stop rows answer
    (kept-unstopped budgets.conflicts may_stop found.kept.conflicts never found.are_kept.conflicts ∙ none)
    found.is_found ended

encoded-unlimited : (league : Instance) (budgets : Budgets) (may_stop : Type 0) (answer : Answer)
    → budgets.conflicts ≡ None → (may_stop → ⊥) → encodes league (IsFoundBy league budgets may_stop) answer
    → answer.status ≡ Spent → ⊥
encoded-unlimited league budgets may_stop answer none never (inl h) ended =
    found_by-unlimited league budgets may_stop (rows_of league) answer none never h.1 ended
encoded-unlimited league budgets may_stop answer none never (inr h) ended =
    let same : File ≡ Spent = sym (ap (λ (a : Answer). a.status) h.1) ∙ ended in cc

-- without a budget of conflicts no answer is a budget that is spent
pub solved-unlimited : (store : Store) (instance : List ℕ) (budgets : Budgets) (may_stop : Type 0) (answer : Answer)
    → budgets.conflicts ≡ None → (may_stop → ⊥) → solved store instance budgets may_stop answer
    → answer.status ≡ Spent → ⊥
solved-unlimited store instance budgets may_stop answer none never =
    takes-unspent (codes "instance") (store.contents instance) INSTANCE_LIMIT (store.took_more INSTANCE_LIMIT)
    (store.failed instance)
    (λ bytes. says (codes "instance") (instance_of (pieces bytes)) (λ l. encodes l (IsFoundBy l budgets may_stop))) answer
    (λ bytes.
    says-unspent (codes "instance") (instance_of (pieces bytes)) (λ l. encodes l (IsFoundBy l budgets may_stop)) answer
    (λ league. encoded-unlimited league budgets may_stop answer none never))
