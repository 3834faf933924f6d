use Rattle.std.proofs.Common.{List, subst}
use Rattle.std.specs.List.{All}
use Rattle.rows.specs.Rows.{IsRow, Row}
use Rattle.propagate.proofs.numbered.NumberedRows.len.Goals as goal

pub returns-clause-rows : goal.returns-clause-rows
returns-clause-rows c = subst (λ (rows : List Row). All IsRow rows) c.self.view_is c.len.ensures.rows
