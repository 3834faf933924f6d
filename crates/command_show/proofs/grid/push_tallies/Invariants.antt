use Rattle.std.proofs.Common.{◌≡◌, ◌-◌, ◌++◌, codes}
use Rattle.std.specs.List.{flat_map, range_with_len}
use Rattle.command_show.specs.Widths.{spaces}
use Rattle.command_show.specs.Grid.{tally}
use Rattle.command_show.specs.SeenSeason.{season_of}
use Rattle.command_show.proofs.grid.push_tallies.Given as goal

abbrev pub invariant-loop-number : goal.invariant-loop-number
invariant-loop-number l =
    l.text.items
    ≡ l.fn.text.items ++ codes "team" ++ spaces (l.columns.front - 4) ++ codes " home 1st  home 2nd  breaks  run home  run away\n"
    ++ flat_map (tally l.columns (season_of l.season)) (range_with_len 0 l.number)
