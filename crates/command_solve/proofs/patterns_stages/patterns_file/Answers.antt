use Rattle.std.proofs.Common.{ℕ, List, sym, subst}
use Rattle.robin_io.specs.Outside.{Store, store_between}
use Rattle.robinx.specs.declared.instance.TheConstants.{INSTANCE_LIMIT}
use Rattle.answers.specs.Stages.{IsFile}
use Rattle.answers.proofs.StageLemmas.{Answers-wider}
use Rattle.command_solve.proofs.PatternsStages.{patterned-league}
use Rattle.command_solve.proofs.patterns_stages.patterns_file.Goals as goal

pub returns-clause-answer : goal.returns-clause-answer
returns-clause-answer g c =
    let store : Store = store_between g.S.Shelf c.args.shelf.now c.file.new.shelf in
    let is_file : IsFile (store.contents c.args.instance.now) INSTANCE_LIMIT c.deref.result.now =
    subst (λ (bytes : List ℕ). IsFile (store.contents c.args.instance.now) INSTANCE_LIMIT bytes) (sym c.deref.ensures.value)
    c.in_ok-bytes.ensures.stage in
    Answers-wider _ _
    (patterned-league store
    c.args.instance.now c.deref.result.now c.args.conflicts c.in_ok-league.league is_file c.in_ok-league.ensures)
    c.found_of.result c.found_of.ensures
