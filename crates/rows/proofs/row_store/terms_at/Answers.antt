use Rattle.std.proofs.Common.{arith}
use Rattle.rows.proofs.FlatLemmas.{row_at, terms-read}
use Rattle.rows.proofs.row_store.terms_at.Goals as goal

pub part-requires-clause-order : goal.part-requires-clause-order
part-requires-clause-order c =
    let at = row_at 0 c.args.terms.now c.args.ends.now c.args.k (record { end = 0; degree = 0 }) c.requires.ended c.requires.there in
    omega (arith, at.order, c.start_of.ensures)

pub part-requires-clause-within : goal.part-requires-clause-within
part-requires-clause-within c = (row_at 0 c.args.terms.now c.args.ends.now c.args.k (record { end = 0; degree = 0 }) c.requires.ended c.requires.there).inside

pub returns : goal.returns
returns c = terms-read _ _ _ _ _ _ c.requires.ended c.requires.there c.start_of.ensures c.part.ensures
