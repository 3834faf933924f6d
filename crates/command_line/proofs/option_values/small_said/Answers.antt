use Rattle.std.proofs.Common.{◌∙◌}
use Rattle.command_line.specs.Words.{small_in}
use Rattle.command_line.proofs.StandingLemmas.{said-once}
use Rattle.command_line.proofs.option_values.small_said.Goals as goal

pub returns-in-Once : goal.returns-in-Once
returns-in-Once c = c.small.ensures ∙ said-once c.args.usual small_in _ _ c.in-Once.ensures
