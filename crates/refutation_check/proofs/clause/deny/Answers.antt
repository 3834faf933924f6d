use Rattle.std.proofs.Common.{◌≡◌, ◌+◌, ◌≤◌, List, [], ◌∷◌, ◌++◌, length, map, take, ap, arith, sym, ◌∙◌}
use Rattle.std.proofs.lemmas.List.{take_all}
use Rattle.rows.specs.Literals.{Literal}
use Rattle.rows.specs.Cardinality.{unit}
use Rattle.rows.specs.Forcing.{set_true}
use Rattle.rows.specs.Values.{valued}
use Rattle.rows.specs.declared.lit.Term.{Term}
use Rattle.refutation.specs.Following.{denied, distinct, has_opposites}
use Rattle.refutation_check.proofs.ClauseLemmas.{came_next, denied_next, fresh_next, opposed_next}
use Rattle.refutation_check.proofs.clause.deny.Goals as goal
use Rattle.refutation_check.proofs.clause.deny.Goals.{in-False, in-Free+in_ok-push-in-Free}

pub returns-in-True-clause-opposites : goal.returns-in-True-clause-opposites
returns-in-True-clause-opposites c =
    sym
    (opposed_next c.args.clause.now c.loop-lit.lit-index c.lit-item.result (valued c.loop-lit.partial)
    c.loop-lit-test.true c.lit-item.is c.loop-lit.invariant.values (sym c.value.ensures ∙ c.in-True.is))

pub loop-lit-preserved : goal.loop-lit-preserved
loop-lit-preserved c =
    let next : valued c.make_true.new.partial ≡ denied (take (c.loop-lit.lit-index + 1) c.args.clause.now) =
    denied_next c.args.clause.now c.loop-lit.lit-index c.lit-item.result (valued c.loop-lit.partial)
    (valued c.make_true.new.partial) c.loop-lit-test.true c.lit-item.is c.loop-lit.invariant.values
    (c.in_ok-make_true.ensures.values
    ∙ ap (λ (l : Literal). set_true (valued c.loop-lit.partial) l) c.negate.ensures) in
    elim c.match-value.branch [
      | in-False w ↦
          let came =
          came_next c.args.clause.now c.loop-lit.lit-index c.lit-item.result (valued c.loop-lit.partial)
          c.loop-lit-test.true c.lit-item.is c.loop-lit.invariant.values c.loop-lit.invariant.plain
          (sym c.value.ensures ∙ w.in-False.is) in
          record {
            plain = came.0;
            terms = rw w.terms-is
                (c.loop-lit.invariant.terms ∙ ap (λ (ls : List Literal). map unit ls) (sym came.1));
            values = next;
            kept = c.in_ok-make_true.ensures.length ∙ c.loop-lit.invariant.kept;
            listed = c.in_ok-make_true.ensures.listed;
          }
      | in-Free+in_ok-push-in-Free w ↦
          let fresh =
          fresh_next c.args.clause.now c.loop-lit.lit-index c.lit-item.result (valued c.loop-lit.partial)
          c.loop-lit-test.true c.lit-item.is c.loop-lit.invariant.values c.loop-lit.invariant.plain
          (sym c.value.ensures ∙ w.in-Free.is) in
          record {
            plain = fresh.0;
            terms = rw w.terms-is
                (w.in_ok-push-in-Free.ensures.items
                ∙ (ap (λ (ts : List Term). ts ++ unit c.lit-item.result ∷ []) c.loop-lit.invariant.terms
                ∙ sym fresh.1));
            values = next;
            kept = c.in_ok-make_true.ensures.length ∙ c.loop-lit.invariant.kept;
            listed = c.in_ok-make_true.ensures.listed;
          }
    ]

pub returns-clause-opposites : goal.returns-clause-opposites
returns-clause-opposites c =
    let past : length c.args.clause.now ≤ c.loop-lit.lit-index = omega arith in
    sym c.loop-lit.invariant.plain ∙ ap has_opposites (take_all c.loop-lit.lit-index c.args.clause.now past)

pub returns-clause-terms : goal.returns-clause-terms
returns-clause-terms c = λ told.
    let past : length c.args.clause.now ≤ c.loop-lit.lit-index = omega arith in
    c.loop-lit.invariant.terms
    ∙ ap (λ (ls : List Literal). map unit (distinct ls)) (take_all c.loop-lit.lit-index c.args.clause.now past)

pub returns-clause-values : goal.returns-clause-values
returns-clause-values c = λ told.
    let past : length c.args.clause.now ≤ c.loop-lit.lit-index = omega arith in
    c.loop-lit.invariant.values ∙ ap denied (take_all c.loop-lit.lit-index c.args.clause.now past)
