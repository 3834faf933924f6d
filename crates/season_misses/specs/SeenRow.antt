-- A row without where its reason lies in memory.
use Rattle.season_misses.specs.Rows as rows
use Rattle.season_misses.specs.declared.row.Row.{Row}

abbrev pub row_of : Row → rows.Row
row_of row = record { reason = row.reason.now; more = row.more }
