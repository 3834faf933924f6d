-- What holds of the runs of all commands.
use Rattle.std.proofs.Common.{◌≡◌, ℕ, ◌+◌, ◌-◌, ◌≤◌, List, Option, Some, Result, Ok, Err, inl, inr, refl, sym, subst, ◌∙◌, arith}
use Rattle.std.specs.Borrow.{Bor}
use Rattle.std.specs.Io.KnownBytes.{Appends, Keeps}
use Rattle.robin_io.specs.Outside.{Output, Store}
use Rattle.robin_watch.specs.declared.budgets.Budgets.{Budgets}
use Rattle.command_line.specs.SeenWords.{command_of}
use Rattle.command_line.specs.Words.{Command}
use Rattle.command_line.specs.Words.Command.{Validate, Show, Demands, Sheet, Check, Solve, SolveFrom, Patterns, Explain, Part, Prove}
use Rattle.command_line.specs.Words.Command.{Bound, Resume, ResumeNear, Audit, Rows, Values, Circle, Make, Trial, Help, Version}
use Rattle.command_line.specs.declared.goal.Goal.{Goal}
use Rattle.command_line.specs.declared.words.Words.{Words}
use Rattle.command_line.specs.declared.words.Words.TheVariants as words
use Rattle.answers.specs.Reply.{Answer}
use Rattle.answers.specs.SeenReply.{Answers, answer_of}
use Rattle.answers.specs.Stages.{IsWritten, Outcome}
use Rattle.answers.specs.declared.reply.NoValue.{NoValue}
use Rattle.answers.specs.declared.reply.NoValue.TheVariants as without
use Rattle.answers.specs.declared.reply.Reply.{Reply}
use Rattle.answers.specs.declared.status.Status.{Status}
use Rattle.answers.specs.declared.status.Status.TheVariants.{Memory, WriteFault}
use Rattle.robin_run.specs.Answer.{IsAnswer}
use Rattle.robin_run.specs.Folded.{IsFolded, most_puts}
use Rattle.robin_run.specs.Givens.{Gives, GivesReply, HearsNoWatch, IsGiven, given_answer}
use Rattle.robin_run.specs.Run.{Answered, NothingFails, Run, Writes}
use Rattle.robin_run.specs.declared.given.Given.{Given}
use Rattle.robin_run.proofs.EndLemmas.{written-memory}

-- ---- what a command gave

-- a reply that is given as it is keeps what holds of it
pub given-gives : (outcome : Outcome) (reply : Result Reply NoValue) (given : Result Given NoValue)
    → IsGiven reply given → Answers outcome reply → Gives outcome given
given-gives outcome (Ok reply) given is holds =
    subst (λ (g : Result Given NoValue). Gives outcome g) (sym is) holds
given-gives outcome (Err (without.Refused refusal)) given is holds =
    subst (λ (g : Result Given NoValue). Gives outcome g) (sym is) holds
given-gives outcome (Err without.Memory) given is holds =
    subst (λ (g : Result Given NoValue). Gives outcome g) (sym is) holds
given-gives outcome (Err without.Room) given is holds =
    subst (λ (g : Result Given NoValue). Gives outcome g) (sym is) holds

-- the answer of a reply is written, unless memory ran out
pub answered-by : (run : Run) (given : Result Given NoValue) → Gives (IsAnswer run.may_stop run.room run.command run.store) given
    → IsFolded given run.ended run.output → run.puts ≤ most_puts given → Answered run
answered-by run (Ok given) answer written few memory = (given_answer given, answer, written, few)
answered-by run (Err (without.Refused refusal)) answer written few memory = (answer_of refusal.reply, answer, written, few)
answered-by run (Err without.Memory) answer ended few memory = absurd (memory ended.0)
answered-by run (Err without.Room) answer ended few memory = absurd (memory ended.0)

-- where the run ends with want of memory, nothing is written
pub kept-by : (run : Run) (given : Result Given NoValue) → Gives (IsAnswer run.may_stop run.room run.command run.store) given
    → IsFolded given run.ended run.output → run.ended ≡ Memory → Keeps run.output.before run.output.after
kept-by run (Ok given) answer written memory =
    absurd (written-memory run.may_stop run.room run.command run.store (given_answer given) run.ended run.output answer written memory)
kept-by run (Err (without.Refused refusal)) answer written memory =
    absurd (written-memory run.may_stop run.room run.command run.store (answer_of refusal.reply) run.ended run.output answer written memory)
kept-by run (Err without.Memory) answer ended memory = ended.1
kept-by run (Err without.Room) answer ended memory = ended.1

-- how many calls there were at most, as a difference
pub few-puts : (before after most : ℕ) → after ≤ before + most → after - before ≤ most
few-puts before after most few = omega (arith, few)

-- and the sink isn't called
pub uncalled-by : (run : Run) (given : Result Given NoValue) → Gives (IsAnswer run.may_stop run.room run.command run.store) given
    → IsFolded given run.ended run.output → (before after : ℕ) → after ≤ before + most_puts given → run.ended ≡ Memory
    → after ≤ before
uncalled-by run (Ok given) answer written before after few memory =
    absurd (written-memory run.may_stop run.room run.command run.store (given_answer given) run.ended run.output answer written memory)
uncalled-by run (Err (without.Refused refusal)) answer written before after few memory =
    absurd (written-memory run.may_stop run.room run.command run.store (answer_of refusal.reply) run.ended run.output answer written memory)
uncalled-by run (Err without.Memory) answer ended before after few memory = omega (arith, few)
uncalled-by run (Err without.Room) answer ended before after few memory = omega (arith, few)

-- ---- what is written

written-whole : (run : Run) (kind : Outcome) (answer : Answer) → kind answer → (run.output.failed → ⊥)
    → IsWritten answer run.ended run.output → Writes run kind
written-whole run kind answer is works (inl h) = record { answer = answer; of_kind = is; ended = h.0; written = h.1 }
written-whole run kind answer is works (inr h) = absurd (works h.1)

-- where nothing fails, an answer of each kind that all answers to the command have is written whole
pub writes : (run : Run) (files : List (List ℕ)) (command : Command) (kind : Outcome) → Answered run
    → run.command ≡ Some command → NothingFails run files
    → ((answer : Answer) → IsAnswer run.may_stop run.room (Some command) run.store answer → kind answer) → Writes run kind
writes run files command kind answered is works tells =
    let told = answered works.memory in
    let given : IsAnswer run.may_stop run.room (Some command) run.store told.0 =
    subst (λ (words : Option Command). IsAnswer run.may_stop run.room words run.store told.0) is told.1 in
    written-whole run kind told.0 (tells told.0 given) works.sink told.2

written-as : (answer : Answer) (ended status : Status) (output : Output) → ended ≡ status
    → (status ≡ WriteFault → ⊥) → IsWritten answer ended output
    → (answer.status ≡ status) × Appends output.before output.after answer.text
written-as answer ended status output is other (inl h) = (sym h.0 ∙ is, h.1)
written-as answer ended status output is other (inr h) = absurd (other (sym is ∙ h.0))

-- where a run ends with this status, an answer to the command with it is written whole
pub record WritesAs (run : Run) (command : Command) (status : Status) : Type 0 where
  pub answer : Answer
  pub given : IsAnswer run.may_stop run.room (Some command) run.store answer
  pub status_is : answer.status ≡ status
  pub written : Appends run.output.before run.output.after answer.text

pub writes-as : (run : Run) (command : Command) (status : Status) → Answered run → run.command ≡ Some command
    → run.ended ≡ status → (status ≡ Memory → ⊥) → (status ≡ WriteFault → ⊥) → WritesAs run command status
writes-as run command status answered is ended no_memory no_fault =
    let told = answered (λ memory. no_memory (sym ended ∙ memory)) in
    let whole : (told.0.status ≡ status) × Appends run.output.before run.output.after told.0.text =
    written-as told.0 run.ended status run.output ended no_fault told.2 in
    record {
      answer = told.0;
      given = subst (λ (words : Option Command). IsAnswer run.may_stop run.room words run.store told.0) is told.1;
      status_is = whole.0;
      written = whole.1;
    }

-- a command that isn't `rows` gives a reply
pub gives-reply : (command : Words)
    → ((instance : Bor (List ℕ)) (goal : Goal) → command ≡ words.Rows instance goal → ⊥)
    → GivesReply (command_of command)
gives-reply (words.Rows instance goal) isnt = isnt instance goal refl
gives-reply (words.Validate instance solution) isnt = tt
gives-reply (words.Show instance solution most width) isnt = tt
gives-reply (words.Demands instance list) isnt = tt
gives-reply (words.Sheet instance solution) isnt = tt
gives-reply (words.Check instance log) isnt = tt
gives-reply (words.Solve instance budgets) isnt = tt
gives-reply (words.SolveFrom instance solution budgets) isnt = tt
gives-reply (words.Patterns instance conflicts) isnt = tt
gives-reply (words.Explain instance conflicts) isnt = tt
gives-reply (words.Part instance list) isnt = tt
gives-reply (words.Prove instance solution floor conflicts) isnt = tt
gives-reply (words.Bound instance log) isnt = tt
gives-reply (words.Resume instance solution k conflicts) isnt = tt
gives-reply (words.ResumeNear instance solution k budgets) isnt = tt
gives-reply (words.Audit instance solution k log) isnt = tt
gives-reply (words.Values instance values) isnt = tt
gives-reply (words.Circle n) isnt = tt
gives-reply (words.Make n seed) isnt = tt
gives-reply (words.Trial n seed budgets) isnt = tt
gives-reply (words.Help topic) isnt = tt
gives-reply words.Version isnt = tt

-- a command that gives a reply hears no watch, if it is none of those that do
pub hears-none : (command : Words) → GivesReply (command_of command)
    → ((instance : Bor (List ℕ)) (budgets : Budgets) → command ≡ words.Solve instance budgets → ⊥)
    → ((instance solution : Bor (List ℕ)) (budgets : Budgets) → command ≡ words.SolveFrom instance solution budgets → ⊥)
    → ((instance : Bor (List ℕ)) (conflicts : Option ℕ) → command ≡ words.Explain instance conflicts → ⊥)
    → ((instance solution : Bor (List ℕ)) (floor conflicts : Option ℕ)
    → command ≡ words.Prove instance solution floor conflicts → ⊥)
    → ((instance solution : Bor (List ℕ)) (k : ℕ) (conflicts : Option ℕ)
    → command ≡ words.Resume instance solution k conflicts → ⊥)
    → ((instance solution : Bor (List ℕ)) (k : ℕ) (budgets : Budgets)
    → command ≡ words.ResumeNear instance solution k budgets → ⊥)
    → ((n : ℕ) (seed : ℕ) (budgets : Budgets) → command ≡ words.Trial n seed budgets → ⊥)
    → HearsNoWatch (command_of command)
hears-none (words.Rows instance goal) replies a b c d e f h = absurd replies
hears-none (words.Validate instance solution) replies a b c d e f h = tt
hears-none (words.Show instance solution most width) replies a b c d e f h = tt
hears-none (words.Demands instance list) replies a b c d e f h = tt
hears-none (words.Sheet instance solution) replies a b c d e f h = tt
hears-none (words.Check instance log) replies a b c d e f h = tt
hears-none (words.Solve instance budgets) replies a b c d e f h = a instance budgets refl
hears-none (words.SolveFrom instance solution budgets) replies a b c d e f h = b instance solution budgets refl
hears-none (words.Patterns instance conflicts) replies a b c d e f h = tt
hears-none (words.Explain instance conflicts) replies a b c d e f h = c instance conflicts refl
hears-none (words.Part instance list) replies a b c d e f h = tt
hears-none (words.Prove instance solution floor conflicts) replies a b c d e f h = d instance solution floor conflicts refl
hears-none (words.Bound instance log) replies a b c d e f h = tt
hears-none (words.Resume instance solution k conflicts) replies a b c d e f h = e instance solution k conflicts refl
hears-none (words.ResumeNear instance solution k budgets) replies a b c d e f h = f instance solution k budgets refl
hears-none (words.Audit instance solution k log) replies a b c d e f h = tt
hears-none (words.Values instance values) replies a b c d e f h = tt
hears-none (words.Circle n) replies a b c d e f h = tt
hears-none (words.Make n seed) replies a b c d e f h = tt
hears-none (words.Trial n seed budgets) replies a b c d e f h = h n seed budgets refl
hears-none (words.Help topic) replies a b c d e f h = tt
hears-none words.Version replies a b c d e f h = tt

-- what such a command answers is the same whatever may stop a run
pub unwatched-answers : (may_stop : Type 0) (room : Option ℕ) (command : Command) (store : Store)
    → HearsNoWatch command → (answer : Answer)
    → IsAnswer ⊥ room (Some command) store answer → IsAnswer may_stop room (Some command) store answer
unwatched-answers may_stop room (Validate instance solution) store hears answer is = is
unwatched-answers may_stop room (Show instance solution most width) store hears answer is = is
unwatched-answers may_stop room (Demands instance members) store hears answer is = is
unwatched-answers may_stop room (Sheet instance solution) store hears answer is = is
unwatched-answers may_stop room (Check instance log) store hears answer is = is
unwatched-answers may_stop room (Solve instance budgets) store hears answer is = absurd hears
unwatched-answers may_stop room (SolveFrom instance solution budgets) store hears answer is = absurd hears
unwatched-answers may_stop room (Patterns instance conflicts) store hears answer is = is
unwatched-answers may_stop room (Explain instance conflicts) store hears answer is = absurd hears
unwatched-answers may_stop room (Part instance members) store hears answer is = is
unwatched-answers may_stop room (Prove instance solution floor conflicts) store hears answer is = absurd hears
unwatched-answers may_stop room (Bound instance log) store hears answer is = is
unwatched-answers may_stop room (Resume instance solution k conflicts) store hears answer is = absurd hears
unwatched-answers may_stop room (ResumeNear instance solution k budgets) store hears answer is = absurd hears
unwatched-answers may_stop room (Audit instance solution k log) store hears answer is = is
unwatched-answers may_stop room (Rows instance goal) store hears answer is = absurd hears
unwatched-answers may_stop room (Values instance values) store hears answer is = is
unwatched-answers may_stop room (Circle n) store hears answer is = is
unwatched-answers may_stop room (Make n seed) store hears answer is = is
unwatched-answers may_stop room (Trial n seed budgets) store hears answer is = absurd hears
unwatched-answers may_stop room (Help topic) store hears answer is = is
unwatched-answers may_stop room Version store hears answer is = is
