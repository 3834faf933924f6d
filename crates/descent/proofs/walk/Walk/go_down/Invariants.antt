use Rattle.rule_core.specs.Table.{table_counts}
use Rattle.descent.specs.Walks.{IsDown}
use Rattle.descent.proofs.walk.Walk.go_down.Given as goal

abbrev pub invariant-down : goal.invariant-down
invariant-down g l = IsDown g.R.Entries l.initial.tally.table.n l.initial.self.board.phased l.initial.tally.weights (table_counts l.initial.tally.table) l.self l.tally l.made
