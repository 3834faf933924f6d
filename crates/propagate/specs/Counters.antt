-- Rows under values.
use Rattle.std.specs.Prelude.{List}
use Rattle.rows.specs.Rows.{Row}
use Rattle.rows.specs.declared.partial.Value.{Value}
use Rattle.propagate.specs.declared.link.Link.{Link}

-- rows, the values of their variables, and how the rows are found in which a literal stands
pub record SeenCounters : Type 0 where
  pub rows : List Row
  pub values : List Value
  pub lists : List (List Link)
