use Rattle.robin_io.specs.Outside.{store_between}
use Rattle.command_line.specs.SeenWords.{command_of}
use Rattle.std.specs.Prelude.{Some}
use Rattle.robin_run.specs.Answer.{IsAnswer}
use Rattle.robin_run.proofs.RunLemmas.{given-gives, gives-reply}
use Rattle.robin_run.proofs.call.follow.Goals as goal

pub replied-requires-clause-replies : goal.replied-requires-clause-replies
replied-requires-clause-replies g c = gives-reply c.args.command c.in_default.not-Rows

pub returns-in_default-clause-answer : goal.returns-in_default-clause-answer
returns-in_default-clause-answer g c =
    given-gives
    (IsAnswer (g.W.Watch.may_stop c.args.watch.now) c.args.limit (Some (command_of c.args.command))
    (store_between g.S.Shelf c.args.shelf.now c.replied.new.shelf)) _ _ c.give.ensures c.replied.ensures.answer

pub returns-in-Rows-clause-answer : goal.returns-in-Rows-clause-answer
returns-in-Rows-clause-answer g c = rw c.in-Rows.is c.rows_of_file.ensures.answer

pub returns-in-Rows-clause-taken : goal.returns-in-Rows-clause-taken
returns-in-Rows-clause-taken g c = rw c.in-Rows.is c.rows_of_file.ensures.taken
