use Rattle.std.proofs.Common.{◌≡◌, ◌++◌}
use Rattle.std.specs.List.{flat_map, range_with_len}
use Rattle.command_show.specs.Grid.{slots_line, team_line}
use Rattle.command_show.specs.SeenSeason.{season_of}
use Rattle.command_show.proofs.grid.push_block.Given as goal

abbrev pub invariant-loop-number : goal.invariant-loop-number
invariant-loop-number l =
    l.text.items
    ≡ l.fn.text.items ++ slots_line l.columns l.block
    ++ flat_map (team_line l.columns (season_of l.season) l.block) (range_with_len 0 l.number)
