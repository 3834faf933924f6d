use Rattle.robin_io.specs.Outside.{store_between}
use Rattle.command_line.specs.SeenWords.{command_of}
use Rattle.answers.proofs.StageLemmas.{Answers-wider}
use Rattle.robin_run.proofs.RunLemmas.{hears-none, unwatched-answers}
use Rattle.robin_run.proofs.call.replied.Goals as goal

pub unwatched-requires-clause-unwatched : goal.unwatched-requires-clause-unwatched
unwatched-requires-clause-unwatched g c =
    hears-none c.args.command c.requires.replies c.in_default.not-Solve c.in_default.not-SolveFrom
    c.in_default.not-Explain c.in_default.not-Prove c.in_default.not-Resume c.in_default.not-ResumeNear
    c.in_default.not-Trial

pub returns-in_default-clause-answer : goal.returns-in_default-clause-answer
returns-in_default-clause-answer g c =
    Answers-wider _ _
    (unwatched-answers (g.W.Watch.may_stop c.args.watch.now) c.args.limit (command_of c.args.command)
    (store_between g.S.Shelf c.args.shelf.now c.unwatched.new.shelf)
    (hears-none c.args.command c.requires.replies c.in_default.not-Solve c.in_default.not-SolveFrom
    c.in_default.not-Explain c.in_default.not-Prove c.in_default.not-Resume c.in_default.not-ResumeNear
    c.in_default.not-Trial))
    c.unwatched.result c.unwatched.ensures.answer

pub returns-in-Solve-clause-answer : goal.returns-in-Solve-clause-answer
returns-in-Solve-clause-answer g c = rw c.in-Solve.is c.solve_file.ensures.answer

pub returns-in-SolveFrom-clause-answer : goal.returns-in-SolveFrom-clause-answer
returns-in-SolveFrom-clause-answer g c = rw c.in-SolveFrom.is c.solve_from_file.ensures.answer

pub returns-in-Explain-clause-answer : goal.returns-in-Explain-clause-answer
returns-in-Explain-clause-answer g c = rw c.in-Explain.is c.explain_file.ensures.answer

pub returns-in-Prove-clause-answer : goal.returns-in-Prove-clause-answer
returns-in-Prove-clause-answer g c = rw c.in-Prove.is c.prove_file.ensures.answer

pub returns-in-Resume-clause-answer : goal.returns-in-Resume-clause-answer
returns-in-Resume-clause-answer g c = rw c.in-Resume.is c.resume_file.ensures.answer

pub returns-in-ResumeNear-clause-answer : goal.returns-in-ResumeNear-clause-answer
returns-in-ResumeNear-clause-answer g c = rw c.in-ResumeNear.is c.resume_near_file.ensures.answer

pub returns-in-Trial-clause-answer : goal.returns-in-Trial-clause-answer
returns-in-Trial-clause-answer g c = rw c.in-Trial.is c.trial.ensures

pub returns-in-Solve-clause-taken : goal.returns-in-Solve-clause-taken
returns-in-Solve-clause-taken g c = rw c.in-Solve.is c.solve_file.ensures.taken

pub returns-in-SolveFrom-clause-taken : goal.returns-in-SolveFrom-clause-taken
returns-in-SolveFrom-clause-taken g c = rw c.in-SolveFrom.is c.solve_from_file.ensures.taken

pub returns-in-Explain-clause-taken : goal.returns-in-Explain-clause-taken
returns-in-Explain-clause-taken g c = rw c.in-Explain.is c.explain_file.ensures.taken

pub returns-in-Prove-clause-taken : goal.returns-in-Prove-clause-taken
returns-in-Prove-clause-taken g c = rw c.in-Prove.is c.prove_file.ensures.taken

pub returns-in-Resume-clause-taken : goal.returns-in-Resume-clause-taken
returns-in-Resume-clause-taken g c = rw c.in-Resume.is c.resume_file.ensures.taken

pub returns-in-ResumeNear-clause-taken : goal.returns-in-ResumeNear-clause-taken
returns-in-ResumeNear-clause-taken g c = rw c.in-ResumeNear.is c.resume_near_file.ensures.taken
