-- What a schedule costs at most. A schedule is given by the counts m of its games.
use Rattle.std.specs.Prelude.{◌*◌, ◌≤◌}
use Rattle.league.specs.Accepted.{IsAccepted, objective}
use Rattle.league.specs.Bounds.{largest}
use Rattle.league.specs.Counts.{Counts}
use Rattle.league.specs.Instance.{Instance, IsInstance}
use Rattle.bound_rows.specs.BoundRows.{bound_size}

-- an accepted schedule pays the largest penalty at most once for each term of the bound rows: what it pays for is a
-- unit, and each unit is a term
abbrev pub CostsAreBounded : Type 0
CostsAreBounded = (league : Instance) (m : Counts) → IsInstance league → IsAccepted league m →
    objective league m ≤ largest (λ c. c.penalty) league.constraints * bound_size league
