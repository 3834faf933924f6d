use Rattle.std.proofs.Common.{Some, ◌∙◌}
use Rattle.command_line.specs.Words.{usual_conflicts, budget_in}
use Rattle.command_line.proofs.StandingLemmas.{said-once}
use Rattle.command_line.proofs.option_values.conflicts_said.Goals as goal

pub returns-in-Once : goal.returns-in-Once
returns-in-Once c = c.budget.ensures ∙ said-once (Some usual_conflicts) budget_in _ _ c.in-Once.ensures
