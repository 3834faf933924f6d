-- The bound rows are faithful both ways: what they say of an assignment is what the league and the bound say of a
-- schedule. A schedule is given by the counts m of its games.
use Rattle.std.specs.Prelude.{ℕ, ◌-◌, ◌≤◌, Bool}
use Rattle.league.specs.Accepted.{IsAccepted, objective}
use Rattle.league.specs.Counts.{Counts, counts_of}
use Rattle.league.specs.Instance.{Instance, IsInstance}
use Rattle.rows.specs.Rows.{SatisfiesAll}
use Rattle.encoding.specs.Shadow.{decoded}
use Rattle.refutation_check.specs.Soundness.{HaveNoSolution}
use Rattle.bound_rows.specs.BoundRows.{bound_rows}

-- each accepted schedule has an objective of at least this
abbrev pub IsLowerBound : Instance → ℕ → Type 0
IsLowerBound league least = (m : Counts) → IsAccepted league m → least ≤ objective league m

-- an accepted schedule with an objective of at most the bound gives values that satisfy the rows
abbrev pub BoundedHaveValues : Type 0
BoundedHaveValues = (league : Instance) (bound : ℕ) (m : Counts) → IsInstance league → IsAccepted league m →
    objective league m ≤ bound → (values : ℕ → Bool) × SatisfiesAll values (bound_rows league bound)

-- values that satisfy the bound rows decode to an accepted schedule with an objective of at most the bound
abbrev pub AnswersAreBounded : Type 0
AnswersAreBounded = (league : Instance) (bound : ℕ) (values : ℕ → Bool) → IsInstance league →
    SatisfiesAll values (bound_rows league bound) →
    IsAccepted league (counts_of (decoded league.n values))
    × (objective league (counts_of (decoded league.n values)) ≤ bound)

-- where the bound rows of one less have no solution, each accepted schedule has at least this objective
abbrev pub RefutedBoundsHold : Type 0
RefutedBoundsHold = (league : Instance) (least : ℕ) → IsInstance league →
    HaveNoSolution (bound_rows league (least - 1)) → IsLowerBound league least
