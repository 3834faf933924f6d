use Rattle.std.proofs.Common.{zero-add}
use Rattle.command_show.specs.Grid.{slot_line}
use Rattle.command_show.proofs.RangeLemmas.{part_after}
use Rattle.command_show.proofs.grid.push_slot_names.Goals as goal

pub loop-number-preserved : goal.loop-number-preserved
loop-number-preserved c =
    let number = c.loop-number.number in
    part_after (slot_line c.args.season.now.names.now) 0 number number c.args.text.now.items c.loop-number.text.items c.push_slot_name.new.text.items
    (zero-add number) c.loop-number.invariant c.in_ok-push_slot_name.ensures
