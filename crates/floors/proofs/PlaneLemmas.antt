-- What a log that a search finds shows of a floor.
use Rattle.std.proofs.Common.{◌≡◌, ℕ, ◌+◌, ◌-◌, ◌≤◌, List, IfSome, Option, None, Some, refl, subst, sym}
use Rattle.league.specs.Instance.{Instance, IsInstance}
use Rattle.refutation.specs.Steps.{Step}
use Rattle.refutation.specs.Writable.{HasShortLines}
use Rattle.refutation.specs.declared.verdict.Verdict.TheVariants.{Accepted}
use Rattle.bound_rows.specs.BoundRows.{bound_rows, bound_vars}
use Rattle.bound_rows.specs.Bounded.{Bounded}
use Rattle.floors.specs.Floors.{IsFloor}
use Rattle.floors.specs.declared.floor.Floor.{Floor}
use Rattle.floors.proofs.CheckLemmas.{above-bound, floor-found}
use Rattle.planes.specs.Refuted.{IsRefutation}

-- a log that refutes the bound rows of one less than a bound, and can be written
pub floor-searched : (league : Instance) (bound : ℕ) (system : Bounded) (steps : List Step) → IsInstance league
    → 1 ≤ bound → system ≡ record { league = league; bound = bound - 1 }
    → IsRefutation (bound_rows system.league system.bound) (bound_vars system.league) steps → HasShortLines steps
    → IsFloor league (record { bound = bound; log = steps })
floor-searched league bound system steps instance some is refuted short =
    let its : IsInstance system.league = subst (λ (s : Bounded). IsInstance s.league) (sym is) instance in
    floor-found league bound system Accepted steps some is (sym refuted.accepted) refl
    (above-bound system.league system.bound (bound_rows system.league system.bound) its refl refuted.unsatisfied)
    refuted.named short

-- the floor that such a log proves, if there is one
pub floors-searched : (league : Instance) (bound : ℕ) (system : Bounded) (found : Option (List Step))
    (made : Option Floor) → IsInstance league → 1 ≤ bound → system ≡ record { league = league; bound = bound - 1 }
    → IfSome found (IsRefutation (bound_rows system.league system.bound) (bound_vars system.league))
    → IfSome made (λ floor. (found ≡ Some floor.log) × HasShortLines floor.log × (floor.bound ≡ bound))
    → IfSome made (λ floor. IsFloor league floor × (floor.bound ≡ bound))
floors-searched league bound system found None instance some is refuted written = written
floors-searched league bound system found (Some floor) instance some is refuted (same, short, at) =
    let refutes = IsRefutation (bound_rows system.league system.bound) (bound_vars system.league) in (
      subst (λ (b : ℕ). IsFloor league (record { bound = b; log = floor.log })) (sym at)
          (floor-searched league bound system floor.log instance some is
          (subst (λ (f : Option (List Step)). IfSome f refutes) same refuted) short),
      at,
    )
