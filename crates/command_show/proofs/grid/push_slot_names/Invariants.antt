use Rattle.std.proofs.Common.{◌≡◌, ◌++◌}
use Rattle.std.specs.List.{flat_map, range_with_len}
use Rattle.command_show.specs.Grid.{slot_line}
use Rattle.command_show.proofs.grid.push_slot_names.Given as goal

abbrev pub invariant-loop-number : goal.invariant-loop-number
invariant-loop-number l = l.text.items ≡ l.fn.text.items ++ flat_map (slot_line l.season.names.now) (range_with_len 0 l.number)
