-- Stages that go on, one after another.
use Rattle.std.proofs.Common.{◌≡◌, ℕ, ◌+◌, ◌<◌, ◌≤◌, List, [], ◌∷◌, length, Option, Some, Result, Ok, Err, ap, ◌∙◌, arith, inl, inr, refl, sym, subst}
use Rattle.std.specs.Prelude.{IfSome}
use Rattle.robin_io.specs.Outside.{Store}
use Rattle.robin_io.specs.Rests.{IsRest}
use Rattle.robinx.specs.Walk.{Fault}
use Rattle.answers.specs.Reply.{Answer}
use Rattle.answers.specs.SeenReply.{Answers, answer_of}
use Rattle.answers.specs.Stages.{IsFile, IsUnread, NoneFails, Outcome, says, takes}
use Rattle.answers.specs.declared.status.Status.TheVariants.{File, ReadFault, Refuted, Yes}
use Rattle.answers.specs.declared.refusal.Refusal.{Refusal}
use Rattle.answers.specs.declared.reply.Reply.{Reply}
use Rattle.answers.specs.declared.reply.NoValue.{NoValue}
use Rattle.answers.specs.declared.reply.NoValue.TheVariants.{Refused, Memory, Room}

-- answers of one kind are of another, where this follows for each
pub Answers-wider : (narrow wide : Outcome) → ((answer : Answer) → narrow answer → wide answer) → (result : Result Reply NoValue) → Answers narrow result → Answers wide result
Answers-wider narrow wide wider (Ok reply) given = wider _ given
Answers-wider narrow wide wider (Err (Refused refusal)) given = wider _ given
Answers-wider narrow wide wider (Err Memory) given = tt
Answers-wider narrow wide wider (Err Room) given = tt

-- what a file says is taken
pub says-value : {A : Type 0} (which : List ℕ) (said : Result A Fault) (x : A) (next : A → Outcome) (answer : Answer) → said ≡ Ok x → next x answer → says which said next answer
says-value which said x next answer is after = subst (λ r. says which r next answer) (sym is) after

-- a file that isn't read in the rest of a run isn't read in the whole
unread-known : (which : List ℕ) (known told : Option (List ℕ)) (limit : ℕ) (long wide_long failed wide_failed : Type 0)
    (answer : Answer) → known ≡ told → (long → wide_long) → (failed → wide_failed)
    → IsUnread which known limit long failed answer → IsUnread which told limit wide_long wide_failed answer
unread-known which known told limit long wide_long failed wide_failed answer same longer failing (inl h) =
    inl (longer h.0, subst (λ (k : Option (List ℕ)). IfSome k (λ file. limit < length file)) same h.1, h.2)
unread-known which known told limit long wide_long failed wide_failed answer same longer failing (inr h) =
    inr (failing h.0, h.1)

module _ (before : ℕ) (whole rest : Store) (is_rest : IsRest before whole rest) (which name : List ℕ) (limit : ℕ) where
  pub unread-rest : (answer : Answer)
      → IsUnread which (rest.contents name) limit (rest.took_more limit) (rest.failed name) answer
      → IsUnread which (whole.contents name) limit (whole.took_more (before + limit)) (whole.failed name) answer
  unread-rest answer unread =
      unread-known which (rest.contents name) (whole.contents name) limit (rest.took_more limit)
      (whole.took_more (before + limit)) (rest.failed name) (whole.failed name) answer (is_rest.contents name)
      (is_rest.took_more limit) (is_rest.failed name) unread

  pub unread-end : (end : NoValue)
      → ((refusal : Refusal) → end ≡ Refused refusal
      → IsUnread which (rest.contents name) limit (rest.took_more limit) (rest.failed name) (answer_of refusal.reply))
      → Answers (IsUnread which (whole.contents name) limit (whole.took_more (before + limit)) (whole.failed name)) (Err end)
  unread-end (Refused refusal) given = unread-rest (answer_of refusal.reply) (given refusal refl)
  unread-end Memory given = tt
  unread-end Room given = tt

  -- what is answered to a file by the rest of a run is what the whole answers
  pub takes-rest : (next : List ℕ → Outcome) (answer : Answer)
      → takes which (rest.contents name) limit (rest.took_more limit) (rest.failed name) next answer
      → takes which (whole.contents name) limit (whole.took_more (before + limit)) (whole.failed name) next answer
  takes-rest next answer (inl read) = inl (
    read.0,
    subst (λ (known : Option (List ℕ)). IsFile known limit read.0) (is_rest.contents name) read.1,
    read.2,
  )
  takes-rest next answer (inr unread) = inr (unread-rest answer unread)

-- a file whose bytes are known, within its limit, and at which nothing fails is read
pub takes-known : (which : List ℕ) (known : Option (List ℕ)) (limit : ℕ) (long failed : Type 0) (next : List ℕ → Outcome) (answer : Answer) (bytes : List ℕ) → known ≡ Some bytes → length bytes ≤ limit → (failed → ⊥) → takes which known limit long failed next answer → next bytes answer
takes-known which known limit long failed next answer bytes is within works (inl read) =
    let same : read.0 ≡ bytes = subst (λ (k : Option (List ℕ)). IfSome k (λ file. read.0 ≡ file)) is read.1.same in
    subst (λ (b : List ℕ). next b answer) same read.2
takes-known which known limit long failed next answer bytes is within works (inr (inl h)) =
    let more : limit < length bytes = subst (λ (k : Option (List ℕ)). IfSome k (λ file. limit < length file)) is h.1 in absurd (omega arith)
takes-known which known limit long failed next answer bytes is within works (inr (inr h)) = absurd (works h.0)

-- a file that is known and was read is what was read; otherwise the answer is no yes
pub takes-yes : (which : List ℕ) (known : Option (List ℕ)) (limit : ℕ) (long failed : Type 0) (next : List ℕ → Outcome) (answer : Answer) → answer.status ≡ Yes → takes which known limit long failed next answer → (bytes : List ℕ) × IsFile known limit bytes × next bytes answer
takes-yes which known limit long failed next answer accepted (inl read) = read
takes-yes which known limit long failed next answer accepted (inr (inl h)) = let is : File ≡ Yes = sym (ap (λ (a : Answer). a.status) h.2) ∙ accepted in cc
takes-yes which known limit long failed next answer accepted (inr (inr h)) = let is : ReadFault ≡ Yes = sym (ap (λ (a : Answer). a.status) h.1) ∙ accepted in cc

-- what a file says, where that is known
pub says-known : {A : Type 0} (which : List ℕ) (said : Result A Fault) (x : A) (next : A → Outcome) (answer : Answer) → said ≡ Ok x → says which said next answer → next x answer
says-known which said x next answer is given = subst (λ r. says which r next answer) is given

-- where the answer is a refutation, the file was read
pub takes-refuted : (which : List ℕ) (known : Option (List ℕ)) (limit : ℕ) (long failed : Type 0) (next : List ℕ → Outcome)
    (answer : Answer) (bytes : List ℕ) → known ≡ Some bytes → answer.status ≡ Refuted
    → takes which known limit long failed next answer → next bytes answer
takes-refuted which known limit long failed next answer bytes is ended (inl read) =
    let same : read.0 ≡ bytes = subst (λ (k : Option (List ℕ)). IfSome k (λ file. read.0 ≡ file)) is read.1.same in
    subst (λ (b : List ℕ). next b answer) same read.2
takes-refuted which known limit long failed next answer bytes is ended (inr (inl h)) =
    let same : File ≡ Refuted = sym (ap (λ (a : Answer). a.status) h.2) ∙ ended in absurd (cc)
takes-refuted which known limit long failed next answer bytes is ended (inr (inr h)) =
    let same : ReadFault ≡ Refuted = sym (ap (λ (a : Answer). a.status) h.1) ∙ ended in absurd (cc)

-- ---- files at which the store doesn't fail

pub first-works : (store : Store) (first : List ℕ) (others : List (List ℕ)) → NoneFails store (first ∷ others)
    → store.failed first → ⊥
first-works store first others works = works 0 [] (omega arith)

pub second-works : (store : Store) (first second : List ℕ) (others : List (List ℕ))
    → NoneFails store (first ∷ second ∷ others) → store.failed second → ⊥
second-works store first second others works = works 1 [] (omega arith)

pub third-works : (store : Store) (first second third : List ℕ) (others : List (List ℕ))
    → NoneFails store (first ∷ second ∷ third ∷ others) → store.failed third → ⊥
third-works store first second third others works = works 2 [] (omega arith)
