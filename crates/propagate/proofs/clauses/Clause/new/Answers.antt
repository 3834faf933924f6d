use Rattle.std.proofs.Common.{ℕ, ◌++◌, List, ◌∷◌, [], get_or, map, take, ap, sym, ◌∙◌}
use Rattle.std.proofs.lemmas.List.{map-append, take_more}
use Rattle.rows.specs.Cardinality.{unit}
use Rattle.rows.specs.Literals.{Literal}
use Rattle.rows.specs.declared.lit.Term.{Term}
use Rattle.propagate.proofs.clauses.Clause.new.Goals as goal

pub loop-literal-init : goal.loop-literal-init
loop-literal-init c = record { so_far = c.in_ok-terms.ensures.items }

pub loop-literal-preserved : goal.loop-literal-preserved
loop-literal-preserved c =
    let literals : List Literal = c.args.literals.now in
    let k : ℕ = c.loop-literal.literal-index in
    let literal : Literal = c.literal-item.result in
    record {
      so_far =
          c.in_ok-push.ensures.items
          ∙ ap (λ (ts : List Term). ts ++ unit literal ∷ []) c.loop-literal.invariant.so_far
          ∙ ap (λ (l : Literal). map unit (take k literals) ++ unit l ∷ []) c.literal-item.is
          ∙ sym (ap (map unit) (take_more literals k literal c.loop-literal-test.true)
          ∙ map-append unit (take k literals) (get_or literals k literal ∷ []));
    }
