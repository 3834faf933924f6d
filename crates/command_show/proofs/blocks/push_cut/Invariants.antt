use Rattle.std.proofs.Common.{◌≡◌, ◌++◌, map}
use Rattle.std.specs.List.{range_with_len}
use Rattle.command_show.proofs.BlockLemmas.{cut_block}
use Rattle.command_show.proofs.blocks.push_cut.Given as goal

abbrev pub invariant-loop-place : goal.invariant-loop-place
invariant-loop-place l = l.found.items ≡ l.fn.found.items ++ map (cut_block l.first l.slots l.width) (range_with_len 0 l.place)
