use Rattle.std.proofs.Common.{◌+◌, ℕ, List, drop, length, subst, sym, ap, ◌∙◌}
use Rattle.std.specs.Prelude.{IfSome}
use Rattle.std.proofs.lemmas.Result.{on_ok_weaker}
use Rattle.rows.specs.Rows.{Row}
use Rattle.refutation_check.specs.Forgotten.{NoneNames}
use Rattle.refutation_check.proofs.lean.let_go.Goals as goal

pub loop-place-preserved : goal.loop-place-preserved
loop-place-preserved c =
    let later = drop (c.args.k + 1) c.args.log.now in
    let none = subst (λ (n : ℕ). IfSome c.over.result (λ place. NoneNames (n + place + 1) later))
    (c.requires.before ∙ sym (ap (λ (r : List Row). length r) c.loop-place.invariant.rows))
    (c.over.ensures c.args.log.now c.requires.last) in
    record {
      rows = c.in_ok-let_row_go.ensures.rows ∙ c.loop-place.invariant.rows;
      lean = λ full is. c.in_ok-let_row_go.ensures.lean full later none (c.loop-place.invariant.lean full is);
    }

pub returns-clause-lean : goal.returns-clause-lean
returns-clause-lean c =
    let later = drop (c.args.k + 1) c.args.log.now in
    let none = subst (λ (n : ℕ). IfSome c.over_place.result (λ place. NoneNames (n + place + 1) later))
    (c.requires.before ∙ sym (ap (λ (r : List Row). length r) c.loop-place.invariant.rows))
    (c.over_place.ensures c.args.log.now c.requires.last) in
    on_ok_weaker c.let_row_go-2.result
    (λ lean full is. lean full later none (c.loop-place.invariant.lean full is)) c.let_row_go-2.ensures.lean
