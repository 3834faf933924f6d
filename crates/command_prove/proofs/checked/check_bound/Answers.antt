use Rattle.std.proofs.Common.{◌≡◌, ℕ, List, IfOk, OnOk, subst, sym, ap, ◌∙◌}
use Rattle.rows.specs.Rows.{Row}
use Rattle.refutation.specs.Verdict.{verdict_of}
use Rattle.refutation_check.specs.Room.{KeepsRoom, PassesRoom}
use Rattle.refutation_check.specs.Within.{AreWithin}
use Rattle.bound_rows.specs.BoundRows.{bound_rows, bound_vars}
use Rattle.bound_rows.specs.Bounded.{Bounded}
use Rattle.command_prove.proofs.CheckLemmas.{of-system, shown, within-from_known}
use Rattle.command_prove.proofs.checked.check_bound.Goals as goal

pub check_within-requires : goal.check_within-requires
check_within-requires c =
    subst (λ (rows : List Row). AreWithin c.vars.result rows) (sym c.rows.ensures)
    (subst (λ (vars : ℕ). AreWithin vars (bound_rows c.in_ok-system.system.league c.in_ok-system.system.bound))
    (sym c.vars.ensures.vars)
    (within-from_known (bound_vars c.in_ok-system.system.league)
    (bound_rows c.in_ok-system.system.league c.in_ok-system.system.bound) c.vars.ensures.known))

-- what is said of the rows and the variables of the system is said of the league's
pub returns-clause-verdict : goal.returns-clause-verdict
returns-clause-verdict c =
    of-system c.args.league.now c.args.bound c.in_ok-system.system c.rows.result.now c.vars.result
    (λ rows vars. IfOk c.check_within.result (λ verdict. verdict ≡ verdict_of rows vars c.args.log.now))
    c.in_ok-system.ensures c.rows.ensures c.vars.ensures.vars c.check_within.ensures.verdict

pub returns-clause-holds : goal.returns-clause-holds
returns-clause-holds c = λ accepted.
    shown c.args.league.now c.args.bound c.rows.result.now c.requires.counted.instance
    (c.rows.ensures ∙ ap (λ (b : Bounded). bound_rows b.league b.bound) c.in_ok-system.ensures)
    (c.check_within.ensures.refuted accepted)

pub returns-clause-within : goal.returns-clause-within
returns-clause-within c =
    of-system c.args.league.now c.args.bound c.in_ok-system.system c.rows.result.now c.vars.result
    (λ rows vars. OnOk c.check_within.result (KeepsRoom rows vars c.args.limit c.args.log.now)) c.in_ok-system.ensures
    c.rows.ensures c.vars.ensures.vars c.check_within.ensures.within

pub returns-clause-full : goal.returns-clause-full
returns-clause-full c = λ is.
    of-system c.args.league.now c.args.bound c.in_ok-system.system c.rows.result.now c.vars.result
    (λ rows vars. PassesRoom rows vars c.args.limit c.args.log.now) c.in_ok-system.ensures c.rows.ensures
    c.vars.ensures.vars (c.check_within.ensures.full is)
