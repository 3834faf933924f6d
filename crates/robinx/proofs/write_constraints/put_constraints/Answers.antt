use Rattle.std.proofs.Common.{sym, ap, ◌∙◌}
use Rattle.robinx.specs.Elements.{group_name}
use Rattle.robinx.specs.Texts.{group_of}
use Rattle.std.specs.Option.{option_copied}
use Rattle.robinx.specs.Held.{IsHeld}
use Rattle.robinx.proofs.PartLemmas.{constraint_added, All-take_more, All-whole}
use Rattle.robinx.proofs.write_constraints.put_constraints.Goals as goal

pub loop-constraint-preserved : goal.loop-constraint-preserved
loop-constraint-preserved c =
    let constraints = c.args.constraints.now in
    let index = c.loop-constraint.constraint-index in
    let constraint = c.constraint-item.result in (
      constraint_added constraints index constraint (option_copied c.loop-constraint.group) c.name-next.result.now c.loop-constraint.text.items c.put_between.new.text.items c.put_constraint.new.text.items _
          c.loop-constraint-test.true (sym c.constraint-item.is) (c.name-next.ensures ∙ ap group_name (c.group_of.ensures ∙ ap group_of c.name.ensures)) c.in_ok-put_between.ensures c.in_ok-put_constraint.ensures.written c.loop-constraint.invariant.0,
      All-take_more IsHeld constraints index constraint c.loop-constraint-test.true (sym c.constraint-item.is) c.loop-constraint.invariant.1 c.in_ok-put_constraint.ensures.held,
    )

pub returns-in_ok-put_end-clause-held : goal.returns-in_ok-put_end-clause-held
returns-in_ok-put_end-clause-held c = All-whole IsHeld c.args.constraints.now c.loop-constraint.constraint-index c.loop-constraint-test.false c.loop-constraint.invariant.1

pub returns-in_default-clause-held : goal.returns-in_default-clause-held
returns-in_default-clause-held c = All-whole IsHeld c.args.constraints.now c.loop-constraint.constraint-index c.loop-constraint-test.false c.loop-constraint.invariant.1
