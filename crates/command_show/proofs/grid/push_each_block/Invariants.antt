use Rattle.std.proofs.Common.{◌≡◌, ◌++◌, drop}
use Rattle.std.specs.List.{flat_map}
use Rattle.command_show.specs.Grid.{block_text}
use Rattle.command_show.specs.SeenSeason.{season_of}
use Rattle.command_show.proofs.grid.push_each_block.Given as goal

-- the text so far, and then the blocks that are left, is the whole
abbrev pub invariant-loop-block : goal.invariant-loop-block
invariant-loop-block l =
    l.text.items ++ flat_map (block_text l.columns (season_of l.season)) (drop l.block-index l.blocks)
    ≡ l.fn.text.items ++ flat_map (block_text l.columns (season_of l.season)) l.blocks
