use Rattle.std.proofs.Common.{◌≡◌, ◌++◌}
use Rattle.std.specs.List.{flat_map, range_with_len}
use Rattle.robinx.specs.Texts.{id_line}
use Rattle.robinx.proofs.write_instance.put_ids.Given as goal

-- the lines so far
abbrev pub invariant-loop-id : goal.invariant-loop-id
invariant-loop-id l = l.text.items ≡ l.fn.text.items ++ flat_map (id_line l.name) (range_with_len 0 l.id)
