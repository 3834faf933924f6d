use Rattle.std.proofs.Common.{arith, List, subst}
use Rattle.std.specs.List.{All}
use Rattle.rows.specs.Rows.{IsRow, Row}
use Rattle.rows.proofs.FlatLemmas.{length-kept}
use Rattle.rows.proofs.row_store.RowStore.len.Goals as goal

pub returns-clause-len : goal.returns-clause-len
returns-clause-len c =
    omega (arith, length-kept c.self.inside.terms.items c.self.inside.ends.items c.args.self.now c.self.view_is, c.self.inside.ends.ok)

pub returns-clause-rows : goal.returns-clause-rows
returns-clause-rows c = subst (λ (rows : List Row). All IsRow rows) c.self.view_is c.self.invariant.rows
