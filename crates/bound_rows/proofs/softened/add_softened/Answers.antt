use Rattle.std.proofs.Common.{◌<◌, length, sym, subst, arith}
use Rattle.std.specs.List.{All}
use Rattle.rows.specs.Rows.{IsRow, Row}
use Rattle.bound_rows.specs.Softening.{soften, units_from}
use Rattle.bound_rows.proofs.GroupLemmas.{length-put, nothing, row_at, softened-next}
use Rattle.bound_rows.proofs.softened.add_softened.Goals as goal

pub push_softened-requires-clause-row : goal.push_softened-requires-clause-row
push_softened-requires-clause-row c =
    let within : c.loop-k.k < length c.args.group.now = omega arith in
    subst IsRow
    (sym (row_at c.args.group.now c.loop-k.k c.terms.result.now c.degree.result within c.terms.ensures c.degree.ensures))
    (c.len-k-end.ensures.rows c.loop-k.k nothing within)

pub push_softened-requires-clause-below : goal.push_softened-requires-clause-below
push_softened-requires-clause-below c =
    let within : c.loop-k.k < length c.args.group.now = omega arith in
    subst (λ (row : Row). All (λ t. t.lit.var < c.args.first) row.terms)
    (sym (row_at c.args.group.now c.loop-k.k c.terms.result.now c.degree.result within c.terms.ensures c.degree.ensures))
    (c.requires.below c.loop-k.k nothing within)

pub loop-k-preserved : goal.loop-k-preserved
loop-k-preserved c =
    let within : c.loop-k.k < length c.args.group.now = omega arith in
    record {
      so_far = softened-next (soften (units_from c.args.first c.args.count)) c.args.group.now c.loop-k.k
          c.terms.result.now c.degree.result c.args.rows.now c.loop-k.rows _ within
          (row_at c.args.group.now c.loop-k.k c.terms.result.now c.degree.result within c.terms.ensures
          c.degree.ensures)
          c.loop-k.invariant.so_far c.in_ok-push_softened.ensures;
      few = omega (arith, length-put c.loop-k.rows _ _ c.in_ok-push_softened.ensures, c.loop-k.invariant.few);
    }
