use Rattle.robin_run.specs.Run.{run_of}
use Rattle.robin_run.proofs.CommandLemmas.{keeps-promises}
use Rattle.robin_run.proofs.EndLemmas.{ends-by-words}
use Rattle.robin_run.proofs.RunLemmas.{answered-by, few-puts, kept-by, uncalled-by}
use Rattle.robin_run.proofs.call.run.Goals as goal

pub returns-clause-answer : goal.returns-clause-answer
returns-clause-answer g c =
    answered-by (run_of g.S.Shelf g.K.Sink c.args.words.now (g.W.Watch.may_stop c.args.watch.now) c.args.shelf.now c.answer-given.new.shelf c.args.out.now
    c.write_given.new.out c.write_given.result) c.answer-given.result c.answer-given.ensures.answer
    c.write_given.ensures.folded
    (few-puts (g.K.Sink.calls c.args.out.now) (g.K.Sink.calls c.write_given.new.out) _ c.write_given.ensures.calls)

pub returns-clause-ends : goal.returns-clause-ends
returns-clause-ends g c = ends-by-words _ (returns-clause-answer g c)

pub returns-clause-commands : goal.returns-clause-commands
returns-clause-commands g c = keeps-promises _ (returns-clause-answer g c)

pub returns-clause-memory : goal.returns-clause-memory
returns-clause-memory g c =
    kept-by (run_of g.S.Shelf g.K.Sink c.args.words.now (g.W.Watch.may_stop c.args.watch.now) c.args.shelf.now c.answer-given.new.shelf c.args.out.now
    c.write_given.new.out c.write_given.result) c.answer-given.result c.answer-given.ensures.answer
    c.write_given.ensures.folded

pub returns-clause-no_puts : goal.returns-clause-no_puts
returns-clause-no_puts g c = λ memory.
    uncalled-by (run_of g.S.Shelf g.K.Sink c.args.words.now (g.W.Watch.may_stop c.args.watch.now) c.args.shelf.now c.answer-given.new.shelf c.args.out.now
    c.write_given.new.out c.write_given.result) c.answer-given.result c.answer-given.ensures.answer
    c.write_given.ensures.folded (g.K.Sink.calls c.args.out.now) (g.K.Sink.calls c.write_given.new.out)
    c.write_given.ensures.calls memory
