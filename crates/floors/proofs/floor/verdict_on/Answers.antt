use Rattle.std.proofs.Common.{◌≡◌, ℕ, List, Ok, ap, subst, sym}
use Rattle.rows.specs.Rows.{Row}
use Rattle.refutation.specs.declared.verdict.Verdict.TheVariants.{Accepted}
use Rattle.refutation_check.specs.Within.{AreWithin}
use Rattle.bound_rows.specs.BoundRows.{bound_rows, bound_vars}
use Rattle.floors.proofs.CheckLemmas.{above-bound, within-from_known}
use Rattle.floors.proofs.floor.verdict_on.Goals as goal

pub check-requires : goal.check-requires
check-requires c =
    let system = c.args.system.now in
    subst (λ (rows : List Row). AreWithin c.vars.result rows) (sym c.rows.ensures)
    (subst (λ (vars : ℕ). AreWithin vars (bound_rows system.league system.bound)) (sym c.vars.ensures.vars)
    (within-from_known (bound_vars system.league) (bound_rows system.league system.bound) c.vars.ensures.known))

pub returns-clause-least : goal.returns-clause-least
returns-clause-least c = λ accepted.
    let same : c.in_ok-verdict.verdict ≡ Accepted = cc in
    above-bound c.args.system.now.league c.args.system.now.bound c.rows.result.now c.vars.ensures.instance
    c.rows.ensures (c.in_ok-verdict.ensures.refuted (ap Ok same))
