-- What an accepted certificate shows.
use Rattle.std.proofs.Common.{◌≡◌, ℕ, ◌-◌, List, subst}
use Rattle.std.proofs.lemmas.List.Elements.{All-weaker}
use Rattle.league.specs.Instance.{Instance, IsInstance}
use Rattle.rows.specs.Rows.{Row}
use Rattle.encoding.specs.Known.{AreKnown, IsKnown}
use Rattle.refutation_check.specs.Soundness.{HaveNoSolution}
use Rattle.refutation_check.specs.Within.{AreWithin, IsWithin}
use Rattle.bound_rows.specs.BoundRows.{bound_rows, bound_vars}
use Rattle.bound_rows.specs.Bounded.{Bounded}
use Rattle.bound_rows.specs.Faithful.{IsLowerBound}
use Rattle.bound_rows.proofs.Faithful.{bounds-from_refuted}

pub within-from_known : (vars : ℕ) (rows : List Row) → AreKnown vars rows → AreWithin vars rows
within-from_known vars rows known =
    All-weaker (IsKnown vars) (IsWithin vars) (λ row is k d within. (is k d within).1) rows known

-- the bound rows of one less than a bound, under another name, have no solution: so the bound is a lower bound
pub shown : (league : Instance) (bound : ℕ) (rows : List Row) → IsInstance league
    → rows ≡ bound_rows league (bound - 1) → HaveNoSolution rows → IsLowerBound league bound
shown league bound rows is same none =
    bounds-from_refuted league bound is (subst (λ (rs : List Row). HaveNoSolution rs) same none)

-- what is said of the rows and the variables of a system is said of the league's bound rows
pub of-system : (league : Instance) (bound : ℕ) (system : Bounded) (rows : List Row) (vars : ℕ)
    (Says : List Row → ℕ → Type 0) → system ≡ record { league = league; bound = bound - 1 }
    → rows ≡ bound_rows system.league system.bound → vars ≡ bound_vars system.league → Says rows vars
    → Says (bound_rows league (bound - 1)) (bound_vars league)
of-system league bound system rows vars Says is rows_are vars_are said =
    subst (λ (b : Bounded). Says (bound_rows b.league b.bound) (bound_vars b.league)) is
    (subst (λ (vs : ℕ). Says (bound_rows system.league system.bound) vs) vars_are
    (subst (λ (rs : List Row). Says rs vars) rows_are said))
