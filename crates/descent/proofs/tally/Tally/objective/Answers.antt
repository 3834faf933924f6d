use Rattle.std.proofs.Common.{ap, ◌∙◌}
use Rattle.rule_core.specs.Table.{table_counts}
use Rattle.descent.specs.Tallies.{objective_on, Tallied}
use Rattle.descent.proofs.CostLemmas.{soft_counted}
use Rattle.descent.proofs.tally.Tally.objective.Goals as goal

pub returns : goal.returns
returns g c =
    c.self.invariant.ready.objective
    ∙ soft_counted g.R.Entries c.self.inside.cells.n c.self.inside.bench.found.room (table_counts c.self.inside.cells) c.self.inside.rules.items c.self.invariant.ready.ready c.self.invariant.exact
    ∙ ap (λ (t : Tallied g.row.R.Denot). objective_on g.R.Entries (table_counts t.table) t.weights) c.self.view_is
