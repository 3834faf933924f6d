use Rattle.std.proofs.Common.{arith}
use Rattle.rows.proofs.FlatLemmas.{length-kept}
use Rattle.rows.proofs.row_store.RowStore.terms.Goals as goal

pub terms_at-requires-clause-there : goal.terms_at-requires-clause-there
terms_at-requires-clause-there c =
    omega (arith, length-kept c.self.inside.terms.items c.self.inside.ends.items c.args.self.now c.self.view_is, c.self.inside.ends.ok, c.deref-2.ensures.len)
