use Rattle.std.proofs.Common.{ap, sym, ◌∙◌}
use Rattle.std.specs.Prelude.{option_map, vec_items}
use Rattle.command_line.proofs.ListLemmas.{members-ascend}
use Rattle.command_line.proofs.list.members.Goals as goal

pub returns-in-Some-clause-ascending : goal.returns-in-Some-clause-ascending
returns-in-Some-clause-ascending c =
    members-ascend c.args.list.now c.in-Some.members.items
    (ap (option_map vec_items) (sym c.in-Some.is) ∙ c.in_ok-members.ensures)
