-- The law is a theorem about the definitions.
use Rattle.bound_rows.proofs.CostLaws.{costs-bounded}
use Rattle.bound_rows.proofs.laws.bounded_costs.Goals as goal

pub returns : goal.returns
returns c = costs-bounded
