use Rattle.std.proofs.Common.{◌∙◌}
use Rattle.command_line.specs.Words.{bound_in}
use Rattle.command_line.specs.declared.goal.Goal.TheVariants.{Accepted}
use Rattle.command_line.proofs.StandingLemmas.{said-once}
use Rattle.command_line.proofs.option_values.goal_said.Goals as goal

pub returns-in-Once : goal.returns-in-Once
returns-in-Once c = c.bound.ensures ∙ said-once Accepted bound_in _ _ c.in-Once.ensures
