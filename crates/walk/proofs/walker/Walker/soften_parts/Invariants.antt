use Rattle.std.specs.Prelude.{◌≡◌}
use Rattle.rule_core.specs.Table.{table_counts}
use Rattle.moves.specs.Round.{round_counts}
use Rattle.walk.specs.Standing.{HasKeptHere, IsFurther}
use Rattle.walk.proofs.walker.Walker.soften_parts.Given as goal

-- the walk goes on with the tally of its games, and its best games aren't worse than these, nor than at the start
abbrev pub invariant-stretches : goal.invariant-stretches
invariant-stretches g l = record {
  further : IsFurther l.league l.initial.self.best.score l.initial.self.left l.self;
  weights : l.tally.weights ≡ l.initial.tally.weights;
  teams : l.tally.table.n ≡ l.initial.tally.table.n;
  counts : table_counts l.tally.table ≡ round_counts l.self.standing.board;
  seen : HasKeptHere l.league l.self;
}
