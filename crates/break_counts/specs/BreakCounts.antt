-- Break counts (own): in a stretch of slots in which each two teams meet, all teams but two have a break after its first
-- slot (de Werra). Hard constraints BR1 and BR2 may leave the teams fewer breaks than that.
use Rattle.std.specs.Prelude.{◌≡◌, ℕ, ◌+◌, ◌-◌, ◌*◌, Bool, true, false, not, ◌&&◌, nat_lt, min as smaller}
use Rattle.std.specs.Prelude.{if◌then◌else◌, List, [], ◌∷◌, length}
use Rattle.std.specs.List.{filter, fold, list_all, list_any, range_with_len, sum_by}
use Rattle.league.specs.Accepted.{IsAccepted, hard_of}
use Rattle.league.specs.Counts.{Counts, slot_count, teams_of}
use Rattle.league.specs.Instance.{Instance, IsInstance}
use Rattle.league.specs.Sets.{is_in}
use Rattle.league.specs.declared.class.Class.{Class}
use Rattle.league.specs.declared.class.Class.TheVariants.{Br1, Br2}
use Rattle.league.specs.declared.class.Constraint.{Constraint}
use Rattle.league.specs.declared.class.Side.{Side}
use Rattle.league.specs.declared.class.Side.TheVariants.{H, A, Both}
use Rattle.venue_counts.specs.VenueCounts.{is_side}
use Rattle.break_counts.specs.declared.stretch.Stretch.{Stretch}

-- ---- stretches

-- so many slots from a first one on
abbrev pub stretch : ℕ → ℕ → Stretch
stretch first count = record { first = first; count = count }

-- the slots of a stretch at which a break counts: those after its first
abbrev pub later_slots : Stretch → List ℕ
later_slots t = range_with_len (t.first + 1) (t.count - 1)

-- The stretches that are counted together. Each two teams meet in each half of a phased league, and in the season of
-- any other.
abbrev pub stretches_of : ℕ → Bool → List (List Stretch)
stretches_of n phased =
    let first = stretch 0 (n - 1) in
    let second = stretch (n - 1) (n - 1) in
    if phased
    then (first ∷ []) ∷ (second ∷ []) ∷ (first ∷ second ∷ []) ∷ []
    else (stretch 0 (slot_count n) ∷ []) ∷ []

-- whether these slots hold each slot at which a break counts
abbrev pub covers : List ℕ → List Stretch → Bool
covers slots stretches = list_all (λ t. list_all (λ s. is_in s slots) (later_slots t)) stretches

-- ---- what is allowed

-- In how many of the stretches a class lets team i have breaks on a side: `intp` of a BR1 that counts all of them, and
-- else in each.
abbrev pub allowed_by : List Stretch → Side → ℕ → Class → ℕ
allowed_by stretches side i (Br1 teams intp other slots) =
    if is_side side other && is_in i teams && covers slots stretches then intp else length stretches
allowed_by stretches side i class = length stretches

-- the least that a hard constraint lets it, and no more than there are stretches
abbrev pub allowed_on : List Constraint → List Stretch → Side → ℕ → ℕ
allowed_on constraints stretches side i =
    fold (λ least c. smaller least (allowed_by stretches side i c.class)) (length stretches) (hard_of constraints)

-- on either side: by what bounds both together, or by what bounds each
abbrev pub allowed_of : List Constraint → List Stretch → ℕ → ℕ
allowed_of constraints stretches i =
    smaller (allowed_on constraints stretches Both i)
    (allowed_on constraints stretches H i + allowed_on constraints stretches A i)

-- all teams together, each by its own bound
abbrev pub allowed_singly : ℕ → List Constraint → List Stretch → ℕ
allowed_singly n constraints stretches = sum_by (allowed_of constraints stretches) (teams_of n)

-- all teams together where a BR2 that counts all these breaks bounds some: `intp`, and the others each by its own
abbrev pub allowed_with : ℕ → List Constraint → List Stretch → Class → ℕ
allowed_with n constraints stretches (Br2 teams intp slots) =
    if covers slots stretches
    then intp + sum_by (allowed_of constraints stretches) (filter (λ i. not (is_in i teams)) (teams_of n))
    else allowed_singly n constraints stretches
allowed_with n constraints stretches class = allowed_singly n constraints stretches

-- ---- too few

-- whether that is less than one break in each stretch for all teams but two
abbrev pub is_few_with : ℕ → List Constraint → List Stretch → Class → Bool
is_few_with n constraints stretches class =
    nat_lt (allowed_with n constraints stretches class) (length stretches * (n - 2))

abbrev pub is_few_in : ℕ → List Constraint → List Stretch → Bool
is_few_in n constraints stretches =
    list_any (λ c. is_few_with n constraints stretches c.class) (hard_of constraints)

-- whether a league allows too few breaks
abbrev pub are_few : Instance → Bool
are_few league = list_any (is_few_in league.n league.constraints) (stretches_of league.n league.phased)

-- the law: such a league accepts no schedule
abbrev pub FewBreaksAllowNone : Type 0
FewBreaksAllowNone =
    (league : Instance) (m : Counts) → IsInstance league → are_few league ≡ true → IsAccepted league m → ⊥
