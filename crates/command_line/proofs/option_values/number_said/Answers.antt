use Rattle.std.proofs.Common.{◌∙◌}
use Rattle.command_line.specs.Words.{number_in}
use Rattle.command_line.proofs.StandingLemmas.{said-once}
use Rattle.command_line.proofs.option_values.number_said.Goals as goal

pub returns-in-Once : goal.returns-in-Once
returns-in-Once c = c.number.ensures ∙ said-once c.args.usual number_in _ _ c.in-Once.ensures
