use Rattle.std.proofs.Common.{rules, arith, ap, ◌∙◌}
use Rattle.std.proofs.lemmas.Grind.{common_steps}
use Rattle.command_line.specs.Standing.{once_more}
use Rattle.command_line.proofs.StandingLemmas.{standing-more}
use Rattle.command_line.proofs.option_values.+value_of.Goals as goal

pub returns-then-eq : goal.returns-then-eq
returns-then-eq t c =
    c.one_more.ensures
    ∙ ap (once_more c.as_str-then-eq.result.now) c.value_of-later.ensures
    ∙ standing-more c.as_str-then-eq.result.now _
    ∙ first_of (search rules, grind (arith, common_steps))
