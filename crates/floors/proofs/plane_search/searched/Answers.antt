use Rattle.std.proofs.Common.{ℕ, List, subst, sym}
use Rattle.rows.specs.Rows.{Row}
use Rattle.refutation_check.specs.Within.{AreWithin}
use Rattle.bound_rows.specs.BoundRows.{bound_rows, bound_vars}
use Rattle.floors.proofs.CheckLemmas.{within-from_known}
use Rattle.floors.proofs.plane_search.searched.Goals as goal

pub refute-requires : goal.refute-requires
refute-requires g c =
    let system = c.args.system.now in
    subst (λ (rows : List Row). AreWithin c.vars.result rows) (sym c.rows-rows.ensures)
    (subst (λ (vars : ℕ). AreWithin vars (bound_rows system.league system.bound)) (sym c.vars.ensures.vars)
    (within-from_known (bound_vars system.league) (bound_rows system.league system.bound) c.vars.ensures.known))
