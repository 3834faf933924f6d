use Rattle.std.proofs.Common.{◌+◌, refl}
use Rattle.command_show.specs.Grid.{cell, grid_name, head}
use Rattle.command_show.specs.SeenSeason.{season_of}
use Rattle.command_show.proofs.RangeLemmas.{part_after}
use Rattle.command_show.proofs.grid.push_team.Goals as goal

pub loop-place-preserved : goal.loop-place-preserved
loop-place-preserved c =
    let season = c.args.season.now in
    let place = c.loop-place.place in
    part_after (cell c.args.columns (season_of season) c.args.team.0) c.args.block.first place (c.args.block.first + place)
    (head c.args.columns c.args.team.0 (grid_name season.names.now c.args.team.0)) c.loop-place.line.items c.push_cell.new.line.items refl
    c.loop-place.invariant c.in_ok-push_cell.ensures
