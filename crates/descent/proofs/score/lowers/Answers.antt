use Rattle.rule_core.specs.Table.{table_counts}
use Rattle.std.proofs.Common.{ap, ◌∙◌}
use Rattle.moves.specs.Round.{edited}
use Rattle.descent.specs.Score.{is_lower, score_on}
use Rattle.descent.specs.declared.score.Score.{Score}
use Rattle.descent.proofs.ScoreLemmas.{beyond-bounds}
use Rattle.descent.proofs.score.lowers.Goals as goal

pub returns-in-None-clause-lowers : goal.returns-in-None-clause-lowers
returns-in-None-clause-lowers g c =
    beyond-bounds g.R.Entries c.args.tally.now.weights (edited (table_counts c.args.tally.now.table) c.args.edit.now)
    c.bounds_below.result c.of-before.result c.bounds_below.ensures c.in-None.ensures.within
    ∙ ap (λ (s : Score). is_lower (score_on g.R.Entries c.args.tally.now.weights
    (edited (table_counts c.args.tally.now.table) c.args.edit.now)) s) c.of-before.ensures
