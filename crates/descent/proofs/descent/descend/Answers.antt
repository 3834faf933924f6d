use Rattle.rule_core.specs.Table.{table_counts}
use Rattle.descent.specs.Score.{score_on}
use Rattle.descent.specs.Settled.{IsSettled}
use Rattle.descent.proofs.StopLemmas.{settled-exactly, unstopped}
use Rattle.descent.proofs.descent.descend.Goals as goal

pub returns-clause-spent : goal.returns-clause-spent
returns-clause-spent g c =
    unstopped c.args.limit _ c.descend_watched.result (λ never. never) c.descend_watched.ensures.spent

pub returns-clause-settled : goal.returns-clause-settled
returns-clause-settled g c =
    settled-exactly
    (IsSettled c.args.tally.now.table.n c.args.phased (score_on g.R.Entries c.args.tally.now.weights)
    (table_counts c.descend_watched.new.tally.table))
    _ c.descend_watched.result (λ never. never) c.descend_watched.ensures.settled c.descend_watched.ensures.lowers
