use Rattle.std.proofs.Common.{◌≡◌, ◌^◌, ◌<◌, arith, ap, subst}
use Rattle.std.proofs.lemmas.List.Elements.{All-more}
use Rattle.rows.specs.declared.lit.Term.{Term}
use Rattle.refutation_check.proofs.RoomLemmas.{has_wide_more}
use Rattle.refutation_check.proofs.kept.has_wide.Goals as goal

pub loop-term-preserved : goal.loop-term-preserved
loop-term-preserved c =
    let t = c.term-item.result in
    let coef : c.term.inside.coef ≡ t.coef = ap (λ (u : Term). u.coef) c.term.view_is in
    let narrow : t.coef < 2 ^ 32 = omega (arith, coef, c.if-term-from.false, c.from.ensures) in
    record {
      none = has_wide_more c.args.terms.now c.loop-term.term-index t c.loop-term-test.true c.term-item.is
          c.loop-term.invariant.none narrow;
      narrow = All-more (λ (u : Term). u.coef < 2 ^ 32) c.args.terms.now c.loop-term.term-index t c.loop-term-test.true
          c.loop-term.invariant.narrow (subst (λ (u : Term). u.coef < 2 ^ 32) c.term-item.is narrow);
    }
