use Rattle.rule_core.specs.Table.{table_counts}
use Rattle.resume.specs.Walks.{IsDown}
use Rattle.resume.proofs.kept_walk.Walk.go_down.Given as goal

abbrev pub invariant-down : goal.invariant-down
invariant-down g l =
    IsDown g.R.Entries l.initial.self.ground.plan (table_counts l.initial.tally.table) l.self l.tally
