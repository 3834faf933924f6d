use Rattle.std.proofs.Common.{◌≡◌, ℕ, ◌+◌, ◌-◌, ◌++◌, codes, decimal}
use Rattle.std.specs.List.{flat_map, range_with_len}
use Rattle.command_show.specs.Widths.{at_right, spaces}
use Rattle.command_show.proofs.grid.push_slots.Given as goal

abbrev pub invariant-loop-place : goal.invariant-loop-place
invariant-loop-place l =
    l.line.items
    ≡ codes "slot" ++ spaces (l.columns.front - 4)
    ++ flat_map (λ (t : ℕ). at_right (l.columns.digits + 1) (decimal t) ++ codes " ") (range_with_len l.block.first l.place)
