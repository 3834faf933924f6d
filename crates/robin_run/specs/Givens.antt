-- What a command gives: an answer, or rows that are ready to be written.
use Rattle.std.specs.Prelude.{◌≡◌, Result, Ok, Err}
use Rattle.answers.specs.Reply.{Answer}
use Rattle.answers.specs.SeenReply.{MatchStage, answer_of}
use Rattle.answers.specs.Stages.{Outcome}
use Rattle.answers.specs.declared.reply.NoValue.{NoValue}
use Rattle.answers.specs.declared.reply.Reply.{Reply}
use Rattle.command_line.specs.Words.{Command}
use Rattle.command_line.specs.Words.Command.{Rows, Solve, SolveFrom, Explain, Prove, Resume, ResumeNear, Trial}
use Rattle.command_rows.specs.Rowed.{rows_answer}
use Rattle.robin_run.specs.declared.given.Given.{Given}
use Rattle.robin_run.specs.declared.given.Given.TheVariants as given

-- the answer that is written
abbrev pub given_answer : Given → Answer
given_answer (given.Answer reply) = answer_of reply
given_answer (given.Rows ready) = rows_answer ready

-- every answer that is given is one of these
abbrev pub Gives : Outcome → Result Given NoValue → Type 0
Gives outcome result = MatchStage result (λ one. outcome (given_answer one)) outcome

-- a reply is given as it is
abbrev pub IsGiven : Result Reply NoValue → Result Given NoValue → Type 0
IsGiven (Ok reply) result = result ≡ Ok (given.Answer reply)
IsGiven (Err why) result = result ≡ Err why

-- a command that gives a reply: any but `rows`
abbrev pub GivesReply : Command → Type 0
GivesReply (Rows instance goal) = ⊥
GivesReply _ = Unit {0}

-- a command that gives a reply, and whose run no watch may end
abbrev pub HearsNoWatch : Command → Type 0
HearsNoWatch (Rows instance goal) = ⊥
HearsNoWatch (Solve instance budgets) = ⊥
HearsNoWatch (SolveFrom instance solution budgets) = ⊥
HearsNoWatch (Explain instance conflicts) = ⊥
HearsNoWatch (Prove instance solution floor conflicts) = ⊥
HearsNoWatch (Resume instance solution k conflicts) = ⊥
HearsNoWatch (ResumeNear instance solution k budgets) = ⊥
HearsNoWatch (Trial n seed budgets) = ⊥
HearsNoWatch _ = Unit {0}
