use Rattle.std.proofs.Common.{◌∙◌}
use Rattle.command_line.specs.Words.{starting}
use Rattle.command_line.specs.Words.Command.{Solve}
use Rattle.command_line.proofs.StandingLemmas.{said-once}
use Rattle.command_line.proofs.search_words.solve_said.Goals as goal

pub returns-in-Once : goal.returns-in-Once
returns-in-Once c =
    c.solve_from.ensures
    ∙ said-once (Solve c.args.instance.now c.args.budgets) (starting c.args.instance.now c.args.budgets) _ _ c.in-Once.ensures
