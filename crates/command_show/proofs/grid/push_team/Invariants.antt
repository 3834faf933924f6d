use Rattle.std.proofs.Common.{◌≡◌, ◌++◌}
use Rattle.std.specs.List.{flat_map, range_with_len}
use Rattle.command_show.specs.Grid.{cell, grid_name, head}
use Rattle.command_show.specs.SeenSeason.{season_of}
use Rattle.command_show.proofs.grid.push_team.Given as goal

abbrev pub invariant-loop-place : goal.invariant-loop-place
invariant-loop-place l =
    l.line.items
    ≡ head l.columns l.team.0 (grid_name l.season.names.now l.team.0)
    ++ flat_map (cell l.columns (season_of l.season) l.team.0) (range_with_len l.block.first l.place)
