use Rattle.std.proofs.Common.{arith}
use Rattle.rows.proofs.FlatLemmas.{degree-read, length-kept}
use Rattle.rows.proofs.row_store.RowStore.degree.Goals as goal

pub index-requires : goal.index-requires
index-requires c =
    omega (arith, length-kept c.self.inside.terms.items c.self.inside.ends.items c.args.self.now c.self.view_is, c.self.inside.ends.ok)

pub returns : goal.returns
returns c =
    rw c.index.ensures
    (degree-read c.self.inside.terms.items c.args.self.now c.self.inside.ends.items c.args.k _ c.self.view_is c.self.invariant.ended
    (omega (arith, length-kept c.self.inside.terms.items c.self.inside.ends.items c.args.self.now c.self.view_is)))
