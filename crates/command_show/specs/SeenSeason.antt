-- A season without where it lies in memory.
use Rattle.rule_core.specs.Table.{table_counts}
use Rattle.command_show.specs.Grid as grid
use Rattle.command_show.specs.declared.season.Season.{Season}

abbrev pub season_of : Season → grid.Season
season_of s = record {
  n = s.cells.now.n;
  phased = s.phased;
  counts = table_counts s.cells.now;
  names = s.names.now;
}
