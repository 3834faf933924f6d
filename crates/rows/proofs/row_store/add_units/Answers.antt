use Rattle.std.proofs.Common.{ℕ, ◌++◌, List, ◌∷◌, [], append_assoc, get_or, map, take, ap, arith, sym, ◌∙◌}
use Rattle.std.proofs.lemmas.List.{map-append, take_more}
use Rattle.rows.specs.Cardinality.{unit}
use Rattle.rows.specs.Literals.{Literal}
use Rattle.rows.specs.declared.lit.Term.{Term}
use Rattle.rows.proofs.row_store.add_units.Goals as goal

pub loop-literal-preserved : goal.loop-literal-preserved
loop-literal-preserved c =
    let literals : List Literal = c.args.literals.now in
    let k : ℕ = c.loop-literal.literal-index in
    let before : List Term = c.args.terms.now.items in
    let literal : Literal = c.literal-item.result in
    record {
      so_far =
          c.in_ok-push.ensures.items
          ∙ ap (λ (ts : List Term). ts ++ unit literal ∷ []) c.loop-literal.invariant.so_far
          ∙ append_assoc before (map unit (take k literals)) (unit literal ∷ [])
          ∙ ap (λ (l : Literal). before ++ (map unit (take k literals) ++ unit l ∷ [])) c.literal-item.is
          ∙ ap (λ (ts : List Term). before ++ ts)
          (sym (ap (map unit) (take_more literals k literal c.loop-literal-test.true)
          ∙ map-append unit (take k literals) (get_or literals k literal ∷ [])));
      room = omega (arith, c.in_ok-push.ensures.len, c.loop-literal.invariant.room);
    }

pub returns-in_err-push-clause-err : goal.returns-in_err-push-clause-err
returns-in_err-push-clause-err c =
    absurd (omega (arith, c.in_err-push.ensures.full, c.loop-literal.invariant.room, c.loop-literal-test.true))
