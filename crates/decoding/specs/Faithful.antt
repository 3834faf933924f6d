-- The encoding is faithful both ways: what its rows say of an assignment is what the league says of a schedule. A
-- schedule is given by the counts m of its games.
use Rattle.std.specs.Prelude.{◌≡◌, ◌≢◌, ℕ, ◌<◌, Bool}
use Rattle.league.specs.Accepted.{IsAccepted}
use Rattle.league.specs.Counts.{Counts, counts_of, slot_count}
use Rattle.league.specs.Instance.{Instance, IsInstance}
use Rattle.league.specs.Structure.{cells_wrong}
use Rattle.rows.specs.Rows.{SatisfiesAll}
use Rattle.encoding.specs.Encoding.{rows_of}
use Rattle.encoding.specs.Shadow.{IsShadow, decoded}
use Rattle.encoding.specs.Variables.{has_breaks}

-- an accepted schedule's shadow satisfies every row
abbrev pub ShadowsSatisfy : Type 0
ShadowsSatisfy = (league : Instance) (m : Counts) (values : ℕ → Bool) → IsInstance league → IsAccepted league m →
    IsShadow league.n (has_breaks league.constraints) m values → SatisfiesAll values (rows_of league)

-- every accepted schedule has one: so where no assignment satisfies every row, no schedule is accepted
abbrev pub AcceptedHaveShadows : Type 0
AcceptedHaveShadows = (league : Instance) (m : Counts) → IsInstance league → IsAccepted league m → (values : ℕ → Bool)
    × IsShadow league.n (has_breaks league.constraints) m values × SatisfiesAll values (rows_of league)

-- an assignment that satisfies every row decodes to an accepted schedule
abbrev pub AnswersAreAccepted : Type 0
AnswersAreAccepted = (league : Instance) (values : ℕ → Bool) → IsInstance league →
    SatisfiesAll values (rows_of league) → IsAccepted league (counts_of (decoded league.n values))

-- the shadow of a schedule in which each team plays once in each slot decodes to its games
abbrev pub ShadowsDecode : Type 0
ShadowsDecode = (n : ℕ) (breaks : Bool) (m : Counts) (values : ℕ → Bool) → IsShadow n breaks m values →
    cells_wrong n m ≡ 0 → (i j s : ℕ) → i < n → j < n → i ≢ j → s < slot_count n →
    counts_of (decoded n values) i j s ≡ m i j s

-- an assignment that satisfies every row is the shadow of what it decodes to
abbrev pub AnswersAreShadows : Type 0
AnswersAreShadows = (league : Instance) (values : ℕ → Bool) → SatisfiesAll values (rows_of league) →
    IsShadow league.n (has_breaks league.constraints) (counts_of (decoded league.n values)) values
