use Rattle.std.proofs.Common.{◌-◌, refl, arith}
use Rattle.rule_core.proofs.MarkLemmas.{AreMarked-less, IsOneLess-marked}
use Rattle.rule_core.proofs.RowLemmas.{IsOneMore-set_less}
use Rattle.rule_core.proofs.counters.Counters.take.Goals as goal

pub mark-requires-clause-small : goal.mark-requires-clause-small
mark-requires-clause-small c = c.requires.marked.small c.args.row

pub returns-clause-less : goal.returns-clause-less
returns-clause-less c =
    IsOneLess-marked c.args.row c.args.column c.args.row c.args.column _ c.args.self.now _ c.mark.new.self
    (IsOneMore-set_less _ c.args.self.now c.args.row c.args.column c.index_mut.result.now
    (c.index_mut.result.now - 1) refl refl (omega arith) (omega arith) c.index_mut.ensures.value refl
    c.requires.there) c.mark.ensures

pub returns-clause-marked : goal.returns-clause-marked
returns-clause-marked c =
    AreMarked-less c.args.row c.args.column c.at-left.result _ c.args.self.now _ c.mark.new.self c.requires.marked
    (IsOneMore-set_less _ c.args.self.now c.args.row c.args.column c.index_mut.result.now
    (c.index_mut.result.now - 1) refl refl (omega arith) (omega arith) c.index_mut.ensures.value refl
    c.requires.there) refl c.at-left.ensures refl c.mark.ensures

pub returns-clause-rows : goal.returns-clause-rows
returns-clause-rows c = c.mark.ensures.as_many
