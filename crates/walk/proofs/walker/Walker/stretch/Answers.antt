use Rattle.std.proofs.Common.{arith, subst}
use Rattle.descent.specs.Score.{IsNoWorse}
use Rattle.walk.specs.declared.best.Kept.{Kept}
use Rattle.walk.proofs.walker.Walker.stretch.Goals as goal

pub returns : goal.returns
returns g c = record {
  walker = c.in_ok-keep_lower.ensures.walker;
  no_worse = subst (λ (kept : Kept). IsNoWorse c.keep_lower.new.self.best.score kept.score) c.move_on.ensures.best
      c.in_ok-keep_lower.ensures.no_worse;
  fewer = omega (arith, c.in_ok-keep_lower.ensures.fewer, c.move_on.ensures.left);
}
