use Rattle.std.proofs.Common.{◌≡◌, ℕ, Option, Ok, subst}
use Rattle.std.specs.Prelude.{IfSome}
use Rattle.rows.specs.Rows.{Row}
use Rattle.refutation.specs.Following.{judged}
use Rattle.refutation.specs.Steps.Step.{Linear}
use Rattle.league_search.proofs.SumLemmas.{longer-pushed}
use Rattle.league_search.proofs.longer.add_linear.Goals as goal

pub returns-in-Some-clause-longer : goal.returns-in-Some-clause-longer
returns-in-Some-clause-longer c =
    longer-pushed c.args.vars c.args.divisor c.args.parts.now c.in-Some.row c.args.longer.now c.push_wide.new.longer
    c.push_wide.result
    (subst
    (λ (found : Option Row). IfSome found (λ row.
    (vars : ℕ) → judged c.args.longer.now vars (Linear c.args.parts.now c.args.divisor) ≡ Ok row))
    c.in-Some.is c.in_ok-found.ensures)
    c.push_wide.ensures.known c.push_wide.ensures.pushed
