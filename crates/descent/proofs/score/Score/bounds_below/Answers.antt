use Rattle.std.proofs.Common.{ℕ, subst, sym, arith}
use Rattle.descent.specs.Score.{AreBoundsBelow}
use Rattle.descent.proofs.ScoreLemmas.{bounds-feasible, bounds-infeasible}
use Rattle.descent.proofs.score.Score.bounds_below.Goals as goal

pub returns-then-self-gt0 : goal.returns-then-self-gt0
returns-then-self-gt0 c = bounds-infeasible c.args.self

pub returns : goal.returns
returns c =
    subst (λ (o : ℕ). AreBoundsBelow (record { infeasibility = 0; objective = o }) c.args.self)
    (sym c.saturating_sub.ensures) (bounds-feasible c.args.self (omega (arith, c.if-self-gt0.false)))
