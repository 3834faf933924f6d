-- The least sum over the rows is the least objective of an accepted schedule. A schedule is given by the counts m of its
-- games.
use Rattle.std.specs.Prelude.{ℕ, ◌≤◌, Bool}
use Rattle.league.specs.Accepted.{IsAccepted, objective}
use Rattle.league.specs.Counts.{Counts, counts_of}
use Rattle.league.specs.Instance.{Instance, IsInstance}
use Rattle.rows.specs.Rows.{SatisfiesAll, weight}
use Rattle.encoding.specs.Shadow.{decoded}
use Rattle.command_rows.specs.Rowed.{greatest_bound, least_system, prices}

-- what satisfies the rows decodes to an accepted schedule with an objective of at most the sum
abbrev pub SumsAreEnough : Type 0
SumsAreEnough = (league : Instance) (values : ℕ → Bool) → IsInstance league →
    SatisfiesAll values (least_system league).rows →
    IsAccepted league (counts_of (decoded league.n values))
    × (objective league (counts_of (decoded league.n values)) ≤ weight values (prices league))

-- an accepted schedule, with an objective of 64 bits, gives values that satisfy them, with a sum of at most the objective
abbrev pub ObjectivesAreSums : Type 0
ObjectivesAreSums = (league : Instance) (m : Counts) → IsInstance league → IsAccepted league m →
    objective league m ≤ greatest_bound →
    (values : ℕ → Bool) × SatisfiesAll values (least_system league).rows
    × (weight values (prices league) ≤ objective league m)
