use Rattle.std.proofs.Common.{◌+◌, true, refl, arith}
use Rattle.rule_core.proofs.MarkLemmas.{AreMarked-more, IsOneMore-marked}
use Rattle.rule_core.proofs.RowLemmas.{IsOneMore-set_more}
use Rattle.rule_core.proofs.counters.Counters.add.Goals as goal

pub mark-requires-clause-small : goal.mark-requires-clause-small
mark-requires-clause-small c = c.requires.marked.small c.args.row

pub returns-clause-more : goal.returns-clause-more
returns-clause-more c =
    IsOneMore-marked c.args.row c.args.column c.args.row c.args.column true c.args.self.now _ c.mark.new.self
    (IsOneMore-set_more c.args.self.now _ c.args.row c.args.column c.index_mut.result.now (c.index_mut.result.now + 1)
    refl refl (omega arith) (omega arith) c.index_mut.ensures.value refl) c.mark.ensures

pub returns-clause-marked : goal.returns-clause-marked
returns-clause-marked c =
    AreMarked-more c.args.row c.args.column c.args.self.now _ c.mark.new.self c.requires.marked
    (IsOneMore-set_more c.args.self.now _ c.args.row c.args.column c.index_mut.result.now (c.index_mut.result.now + 1)
    refl refl (omega arith) (omega arith) c.index_mut.ensures.value refl) refl c.mark.ensures

pub returns-clause-rows : goal.returns-clause-rows
returns-clause-rows c = c.mark.ensures.as_many
