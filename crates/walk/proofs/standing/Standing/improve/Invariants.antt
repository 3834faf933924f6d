use Rattle.std.specs.Prelude.{◌≡◌, ◌≤◌}
use Rattle.rule_core.specs.Table.{table_counts}
use Rattle.descent.specs.Score.{IsNoWorse, score_on}
use Rattle.walk.specs.Standing.{IsKept, IsStandingOn}
use Rattle.walk.proofs.standing.Standing.improve.Given as goal

-- the walk stands on the tally's games, and the best isn't worse than the one at the start
abbrev pub invariant-draws : goal.invariant-draws
invariant-draws g l = record {
  weights : l.tally.weights ≡ l.initial.tally.weights;
  teams : l.tally.table.n ≡ l.initial.tally.table.n;
  standing : IsStandingOn l.initial.tally.table.n l.initial.self.board.phased (table_counts l.tally.table) l.self;
  best : IsKept l.initial.tally.table.n l.initial.self.board.phased (score_on g.R.Entries l.initial.tally.weights)
      l.best;
  no_worse : IsNoWorse l.best.score l.initial.best.score;
  seen : IsNoWorse l.best.score (score_on g.R.Entries l.initial.tally.weights (table_counts l.tally.table));
  within : l.tried ≤ l.limit;
  most : l.limit ≤ l.cooling.left;
}
