use Rattle.std.proofs.Common.{◌∙◌}
use Rattle.command_line.specs.Words.{most_in}
use Rattle.command_line.proofs.StandingLemmas.{said-once}
use Rattle.command_line.proofs.option_values.most_said.Goals as goal

pub returns-in-Once : goal.returns-in-Once
returns-in-Once c = c.most.ensures ∙ said-once 20 most_in _ _ c.in-Once.ensures
