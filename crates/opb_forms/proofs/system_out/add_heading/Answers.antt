use Rattle.std.proofs.Common.{codes, decimal}
use Rattle.opb_forms.proofs.StreamLemmas.{grown}
use Rattle.opb_forms.proofs.system_out.add_heading.Goals as goal

pub returns : goal.returns
returns c =
    grown c.args.waiting.now c.add.new.self c.add_number.new.self c.add-2.new.self c.add_number-2.new.self c.add-3.new.self
    (codes "* #variable= ") (decimal c.args.vars) (codes " #constraint= ") (decimal c.args.count) (codes "\n")
    c.add.ensures c.add_number.ensures.text c.add-2.ensures c.add_number-2.ensures.text c.add-3.ensures
