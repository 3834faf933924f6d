use Rattle.std.proofs.Common.{◌<◌, ◌^◌, arith, subst}
use Rattle.std.proofs.lemmas.Grind.{common_steps}
use Rattle.std.proofs.lemmas.List.Elements.{All-more}
use Rattle.league.specs.declared.class.Constraint.{Constraint}
use Rattle.bound_rows.proofs.count.paid_terms.Goals as goal

pub loop-constraint-preserved : goal.loop-constraint-preserved
loop-constraint-preserved c = record {
  so_far = grind (arith, common_steps);
  most = omega (arith, c.loop-constraint.invariant.most, c.terms_if_paid-total.ensures.most);
  small = All-more (λ (x : Constraint). x.penalty < 2 ^ 32) c.args.constraints.now c.loop-constraint.constraint-index
      c.constraint-item.result c.loop-constraint-test.true c.loop-constraint.invariant.small
      (subst (λ (x : Constraint). x.penalty < 2 ^ 32) c.constraint-item.is c.terms_if_paid-total.ensures.small);
}
