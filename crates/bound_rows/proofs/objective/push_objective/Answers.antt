use Rattle.std.proofs.Common.{List, sym, subst, ◌∙◌}
use Rattle.rows.specs.Rows.{IsRow}
use Rattle.rows.specs.declared.lit.Term.{Term}
use Rattle.bound_rows.proofs.RowLemmas.{IsRow-objective}
use Rattle.bound_rows.proofs.objective.push_objective.Goals as goal

pub push-requires-clause-row : goal.push-requires-clause-row
push-requires-clause-row c =
    subst (λ (ts : List Term). IsRow (record { terms = ts; degree = c.saturating_sub.result }))
    (sym (c.deref.ensures.value ∙ c.in_ok-terms.ensures))
    (IsRow-objective c.args.first c.saturating_sub.result c.args.groups.now c.requires.paid)
