-- What a contract sees of the stages of a run.
use Rattle.std.specs.Prelude.{◌≡◌, ℕ, List, Result, Ok, Err}
use Rattle.robinx.specs.Walk.{Fault}
use Rattle.answers.specs.Reply.{Answer, malformed}
use Rattle.answers.specs.Stages.{Outcome}
use Rattle.answers.specs.declared.reply.Reply.{Reply}
use Rattle.answers.specs.declared.reply.NoValue.{NoValue}
use Rattle.answers.specs.declared.reply.NoValue.TheVariants.{Refused, Memory, Room}

-- a reply as an answer
abbrev pub answer_of : Reply → Answer
answer_of reply = record { status = reply.status; text = reply.text.items }

-- what holds of what a stage goes on with, and of the answer that it refuses with; nothing where memory ran out, or
-- the room for the steps of a log
abbrev pub MatchStage : {X : Type 0} → Result X NoValue → (X → Type 0) → (Answer → Type 0) → Type 0
MatchStage (Ok x) Goes Ends = Goes x
MatchStage (Err (Refused refusal)) Goes Ends = Ends (answer_of refusal.reply)
MatchStage (Err Memory) Goes Ends = Unit {0}
MatchStage (Err Room) Goes Ends = Unit {0}

-- every answer that a stage makes is one of these
abbrev pub Answers : Outcome → Result Reply NoValue → Type 0
Answers outcome result = MatchStage result (λ reply. outcome (answer_of reply)) outcome

-- a file has a fault of form, and is refused by it
abbrev pub IsMalformed : {X : Type 0} → List ℕ → Result X Fault → Answer → Type 0
IsMalformed {X} which said answer =
    (fault : Fault) × (said ≡ Err fault) × (answer ≡ malformed which fault.0 fault.1)
