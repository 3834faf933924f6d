use Rattle.std.proofs.Common.{false, ◌∙◌}
use Rattle.command_line.specs.Words.{form_in}
use Rattle.command_line.proofs.StandingLemmas.{said-once}
use Rattle.command_line.proofs.option_values.form_said.Goals as goal

pub returns-in-Once : goal.returns-in-Once
returns-in-Once c = c.form.ensures ∙ said-once false form_in _ _ c.in-Once.ensures
