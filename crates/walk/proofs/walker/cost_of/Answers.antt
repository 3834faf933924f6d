use Rattle.std.proofs.Common.{ap, ◌∙◌}
use Rattle.league.specs.Counts.{Counts}
use Rattle.rule_core.specs.Table.{table_counts}
use Rattle.descent.specs.declared.score.Score.{Score}
use Rattle.walk.specs.Walked.{league_score}
use Rattle.walk.proofs.WalkLemmas.{scores-are}
use Rattle.walk.proofs.walker.cost_of.Goals as goal

pub returns : goal.returns
returns c =
    c.of.ensures
    ∙ ap (λ (f : Counts → Score). f (table_counts c.in_ok-tally.tally.table))
    (scores-are _ c.args.league.now c.in_ok-tally.tally.weights c.in_ok-tally.ensures.rules)
    ∙ ap (λ (m : Counts). league_score c.args.league.now m) c.in_ok-tally.ensures.counts
