use Rattle.std.proofs.Common.{◌++◌, List, map, sym, subst, ap, ◌∙◌}
use Rattle.rows.specs.Cardinality.{unit}
use Rattle.rows.specs.Rows.{IsRow}
use Rattle.rows.specs.declared.lit.Term.{Term}
use Rattle.bound_rows.specs.Softening.{units_from}
use Rattle.bound_rows.proofs.RowLemmas.{IsRow-soften}
use Rattle.bound_rows.proofs.softened.push_softened.Goals as goal

pub push-requires-clause-row : goal.push-requires-clause-row
push-requires-clause-row c =
    subst (λ (ts : List Term). IsRow (record { terms = ts; degree = c.args.degree }))
    (sym (c.deref.ensures.value ∙ c.in_ok-add_units.ensures
    ∙ ap (λ (ts : List Term). ts ++ map unit (units_from c.args.first c.args.count))
    (c.in_ok-extend_from_slice.ensures.items ∙ ap (λ (ts : List Term). ts ++ c.args.terms.now) c.clear.ensures.items)))
    (IsRow-soften c.args.first c.args.count (record { terms = c.args.terms.now; degree = c.args.degree })
    c.requires.row c.requires.below)
