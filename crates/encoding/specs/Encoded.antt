-- What an encoding keeps beside its league.
use Rattle.std.specs.Prelude.{◌≡◌, ℕ, Bool, List}
use Rattle.league.specs.Instance.{Instance}
use Rattle.rows.specs.Rows.{Row}
use Rattle.encoding.specs.Encoding.{rows_of}
use Rattle.encoding.specs.RowRanges.{first_rows}
use Rattle.encoding.specs.Variables.{has_breaks}

-- the league's rows, whether its breaks have variables, and where the rows of each constraint begin
pub record IsEncoded (league : Instance) (rows : List Row) (breaks : Bool) (starts : List ℕ) : Type 0 where
  pub rows_are : rows ≡ rows_of league
  pub breaks_are : breaks ≡ has_breaks league.constraints
  pub starts_are : starts ≡ first_rows league
