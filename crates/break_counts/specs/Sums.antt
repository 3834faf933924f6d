-- Bounds of breaks that are added up (own). A hard constraint BR1 or BR2 may bound the breaks at some slots, and another
-- those at others or of other teams. Together they may leave the teams too few breaks, where none of them does alone.
use Rattle.std.specs.Prelude.{◌≡◌, ◌⊎◌, ℕ, ◌+◌, ◌-◌, ◌*◌, Bool, true, false, not, ◌&&◌, ◌==◌, nat_lt, List, length, slice_get}
use Rattle.std.specs.List.{filter, list_all, list_any, sum_by}
use Rattle.std.specs.Option.{option_map_or}
use Rattle.league.specs.Accepted.{IsAccepted}
use Rattle.league.specs.Counts.{Counts, teams_of}
use Rattle.league.specs.Instance.{Instance, IsInstance}
use Rattle.league.specs.Sets.{is_in}
use Rattle.league.specs.declared.class.Class.{Class}
use Rattle.league.specs.declared.class.Class.TheVariants.{Br1, Br2}
use Rattle.league.specs.declared.class.Constraint.{Constraint}
use Rattle.league.specs.declared.class.Side.TheVariants.{Both}
use Rattle.venue_counts.specs.VenueCounts.{is_side}
use Rattle.break_counts.specs.BreakCounts.{allowed_of, are_few, later_slots, stretches_of}
use Rattle.break_counts.specs.declared.stretch.Stretch.{Stretch}
use Rattle.break_counts.specs.declared.together.Summand.{Summand}

-- Whether a class counts the break of team i at slot s: a BR2 if it is one of its teams, and a BR1 of both sides if it
-- is the one of its teams that is named.
abbrev pub counts_break : Class → ℕ → ℕ → ℕ → Bool
counts_break (Br1 teams intp side slots) named i s =
    is_side Both side && (named == i) && is_in i teams && is_in s slots
counts_break (Br2 teams intp slots) named i s = is_in i teams && is_in s slots
counts_break class named i s = false

-- at most how many of these breaks it allows
abbrev pub most_breaks : Class → ℕ
most_breaks (Br1 teams intp side slots) = intp
most_breaks (Br2 teams intp slots) = intp
most_breaks class = 0

-- whether a bound counts the break of team i at slot s: it does if its constraint is hard and counts it
abbrev pub counts : List Constraint → ℕ → ℕ → Summand → Bool
counts constraints i s bound =
    option_map_or (λ c. c.hard && counts_break c.class bound.team i s) (slice_get constraints bound.place) false

abbrev pub allows : List Constraint → Summand → ℕ
allows constraints bound = option_map_or (λ c. most_breaks c.class) (slice_get constraints bound.place) 0

-- Whether bounds count, one beside another, each break of team i in the stretches. No two have to be apart: a break that
-- two of them count only makes them allow more together.
abbrev pub is_counted : List Constraint → List Summand → List Stretch → ℕ → Bool
is_counted constraints bounds stretches i =
    list_all (λ t. list_all (λ s. list_any (counts constraints i s) bounds) (later_slots t)) stretches

-- In how many stretches each team may have breaks, added up over all teams. It is what the bounds allow together, and
-- beside them what each team is allowed by itself of which they don't count all breaks.
abbrev pub allowed_together : ℕ → List Constraint → List Summand → List Stretch → ℕ
allowed_together n constraints bounds stretches =
    sum_by (allows constraints) bounds
    + sum_by (allowed_of constraints stretches)
    (filter (λ i. not (is_counted constraints bounds stretches i)) (teams_of n))

-- whether that is less than one break in each stretch for all teams but two
abbrev pub is_few_together : ℕ → List Constraint → List Summand → List Stretch → Bool
is_few_together n constraints bounds stretches =
    nat_lt (allowed_together n constraints bounds stretches) (length stretches * (n - 2))

-- whether bounds allow too few breaks together
abbrev pub are_few_together : Instance → List Summand → Bool
are_few_together league bounds =
    list_any (is_few_together league.n league.constraints bounds) (stretches_of league.n league.phased)

-- there are such bounds
abbrev pub AddUp : Instance → Type 0
AddUp league = (bounds : List Summand) × (are_few_together league bounds ≡ true)

-- one of a league's hard constraints allows too few breaks, or some do together
abbrev pub AllowsTooFew : Instance → Type 0
AllowsTooFew league = (are_few league ≡ true) ⊎ AddUp league

-- the law: a league with such bounds accepts no schedule
abbrev pub AddedBreaksAllowNone : Type 0
AddedBreaksAllowNone = (league : Instance) (m : Counts) → IsInstance league → AddUp league → IsAccepted league m → ⊥
