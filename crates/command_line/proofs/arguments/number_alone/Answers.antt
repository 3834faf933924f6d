use Rattle.std.proofs.Common.{sym, ◌∙◌}
use Rattle.command_line.proofs.StandingLemmas.{one_number-alone, one_number-more}
use Rattle.command_line.proofs.arguments.number_alone.Goals as goal

pub returns-then-has_no_argument : goal.returns-then-has_no_argument
returns-then-has_no_argument c =
    c.number.ensures
    ∙ one_number-alone c.args.word.now _ (sym c.has_no_argument.ensures ∙ c.if-has_no_argument.true)

pub returns-else-has_no_argument : goal.returns-else-has_no_argument
returns-else-has_no_argument c =
    one_number-more c.args.word.now _ (sym c.has_no_argument.ensures ∙ c.if-has_no_argument.false)
