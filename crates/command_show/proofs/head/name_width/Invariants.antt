use Rattle.std.proofs.Common.{◌≡◌, ℕ, ◌^◌, ◌<◌, max}
use Rattle.std.specs.List.{fold, range_with_len}
use Rattle.command_show.specs.Widths.{width_of}
use Rattle.command_show.specs.Grid.{grid_name}
use Rattle.command_show.proofs.head.name_width.Given as goal

abbrev pub invariant-loop-number : goal.invariant-loop-number
invariant-loop-number l = record {
  widest_is : l.widest ≡ fold (λ (widest i : ℕ). max widest (width_of (grid_name l.season.names.now i))) 0 (range_with_len 0 l.number);
  short : l.widest < 2 ^ 63;
}
