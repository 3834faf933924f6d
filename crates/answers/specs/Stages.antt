-- The stages of a run in their order, each of which goes on or gives the answer.
use Rattle.std.specs.Prelude.{◌≡◌, ℕ, ◌+◌, ◌<◌, ◌≤◌, ◌⊎◌, List, length, Option, IfSome, Result, Ok, Err}
use Rattle.std.specs.Io.KnownBytes.{Appends}
use Rattle.std.specs.List.{All}
use Rattle.robin_io.specs.Outside.{Output, Store}
use Rattle.robin_io.specs.Written.{AppendsPrefix}
use Rattle.robinx.specs.Walk.{Fault}
use Rattle.answers.specs.Reply.{Answer, read_fault, too_long, malformed}
use Rattle.answers.specs.declared.status.Status.{Status}
use Rattle.answers.specs.declared.status.Status.TheVariants.{WriteFault}

-- bytes are those of a file, whose bytes are known or not
pub record IsFile (known : Option (List ℕ)) (limit : ℕ) (bytes : List ℕ) : Type 0 where
  pub same : IfSome known (λ file. bytes ≡ file)
  pub within : length bytes ≤ limit

-- the file isn't read: it was found to be too long, or the store failed at it
abbrev pub IsUnread : List ℕ → Option (List ℕ) → ℕ → Type 0 → Type 0 → Answer → Type 0
IsUnread which known limit long failed answer =
    (long × IfSome known (λ file. limit < length file) × (answer ≡ too_long which limit))
    ⊎ (failed × (answer ≡ read_fault which))

-- what is said of an answer
abbrev pub Outcome : Type 1
Outcome = Answer → Type 0

-- a stage before an answer
infixl 10 ◌>>=◌
abbrev pub ◌>>=◌ : {A : Type 0} → ((A → Outcome) → Outcome) → (A → Outcome) → Outcome
stage >>= next = stage next

-- the stage that takes the bytes of a file, which are known or not
abbrev pub takes : List ℕ → Option (List ℕ) → ℕ → Type 0 → Type 0 → (List ℕ → Outcome) → Outcome
takes which known limit long failed next answer =
    ((bytes : List ℕ) × IsFile known limit bytes × next bytes answer)
    ⊎ IsUnread which known limit long failed answer

-- the stage that reads the file of a name, which is called `instance`, `solution`, `log` or `values`, where so many
-- bytes were taken before it
abbrev pub reads : Store → List ℕ → List ℕ → ℕ → ℕ → (List ℕ → Outcome) → Outcome
reads store which name limit before =
    takes which (store.contents name) limit (store.took_more (before + limit)) (store.failed name)

-- the stage that takes what a file says: a value, or its first fault of form
abbrev pub says : {A : Type 0} → List ℕ → Result A Fault → (A → Outcome) → Outcome
says which (Ok x) next answer = next x answer
says which (Err fault) next answer = answer ≡ malformed which fault.0 fault.1

-- the answer is written: whole, or a fault of the sink cuts its text short
abbrev pub IsWritten : Answer → Status → Output → Type 0
IsWritten answer status output =
    ((status ≡ answer.status) × Appends output.before output.after answer.text)
    ⊎ ((status ≡ WriteFault) × output.failed × AppendsPrefix output.before output.after answer.text)

-- the store fails at none of these files
abbrev pub NoneFails : Store → List (List ℕ) → Type 0
NoneFails store names = All (λ name. store.failed name → ⊥) names
