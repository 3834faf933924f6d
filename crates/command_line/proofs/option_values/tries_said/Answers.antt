use Rattle.std.proofs.Common.{◌∙◌}
use Rattle.command_line.specs.Words.{tries_in}
use Rattle.command_line.proofs.StandingLemmas.{said-once}
use Rattle.command_line.proofs.option_values.tries_said.Goals as goal

pub returns-in-Once : goal.returns-in-Once
returns-in-Once c = c.tries.ensures ∙ said-once c.args.usual tries_in _ _ c.in-Once.ensures
