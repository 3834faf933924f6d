use Rattle.std.proofs.Common.{None, ◌∙◌}
use Rattle.command_line.specs.Words.{limit_in}
use Rattle.command_line.proofs.StandingLemmas.{said-once}
use Rattle.command_line.proofs.option_values.limit_said.Goals as goal

pub returns-in-Once : goal.returns-in-Once
returns-in-Once c = c.limit.ensures ∙ said-once None limit_in _ _ c.in-Once.ensures
