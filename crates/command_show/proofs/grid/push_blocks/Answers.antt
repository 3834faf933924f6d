use Rattle.std.proofs.Common.{◌≡◌, ℕ, List, ◌++◌, ap, ◌∙◌, arith}
use Rattle.std.specs.List.{flat_map}
use Rattle.std.proofs.lemmas.List.Elements.{All-same}
use Rattle.std.proofs.lemmas.Result.{on_ok_weaker}
use Rattle.command_show.specs.declared.blocks.Block.{Block}
use Rattle.command_show.specs.Blocks.{blocks_of}
use Rattle.command_show.specs.Grid.{block_text, room}
use Rattle.command_show.specs.SeenSeason.{season_of}
use Rattle.command_show.proofs.BlockLemmas.{IsWithin, blocks_of-most, blocks_within}
use Rattle.command_show.proofs.grid.push_blocks.Goals as goal

pub push_each_block-requires-clause-slots : goal.push_each_block-requires-clause-slots
push_each_block-requires-clause-slots c =
    let n = c.args.season.now.cells.now.n in
    let blocks : c.deref.result.now ≡ blocks_of n c.room-room.result =
    c.deref.ensures.value ∙ c.in_ok-blocks.ensures ∙ ap (λ (k : ℕ). blocks_of k c.room-room.result) c.n.ensures.n in
    All-same (IsWithin n) c.deref.result.now (blocks_of n c.room-room.result) blocks
    (blocks_within n c.room-room.result (omega (arith, c.n.ensures.n, c.n.ensures.teams.at_least)) c.room-room.ensures.some)

pub returns : goal.returns
returns c =
    let n = c.args.season.now.cells.now.n in
    let old = c.args.text.now.items in
    let wide = room c.args.columns c.args.width in
    let blocks : c.deref.result.now ≡ blocks_of n wide =
    c.deref.ensures.value ∙ c.in_ok-blocks.ensures
    ∙ ap (λ (k : ℕ). blocks_of k c.room-room.result) c.n.ensures.n
    ∙ ap (blocks_of n) c.room-room.ensures.value
    ∙ blocks_of-most n wide (omega (arith, c.n.ensures.n, c.n.ensures.teams.at_most)) in
    on_ok_weaker c.push_each_block.result
    (λ e. e ∙ ap (λ (bs : List Block). old ++ flat_map (block_text c.args.columns (season_of c.args.season.now)) bs) blocks)
    c.push_each_block.ensures
