-- What a team needs on the other side of some slots, by either bound of a CA1.
use Rattle.std.specs.Prelude.{◌≡◌, ℕ, ◌-◌, ◌*◌, ◌/◌, Bool, true, false, nat_lt, List, length}
use Rattle.std.specs.List.{list_any, sum_by}
use Rattle.league.specs.Accepted.{hard_of}
use Rattle.league.specs.Counts.{teams_of}
use Rattle.league.specs.Instance.{Instance}
use Rattle.league.specs.declared.class.Class.{Class}
use Rattle.league.specs.declared.class.Class.TheVariants.{Ca1}
use Rattle.league.specs.declared.class.Constraint.{Constraint}
use Rattle.league.specs.declared.class.Side.{Side}
use Rattle.league.specs.declared.class.Side.TheVariants.{H, A}
use Rattle.encoding.specs.Encoding.{rows_of}
use Rattle.refutation.specs.Steps.{Step}
use Rattle.venue_counts.specs.CountLogs.{AddsUp, counted_rows}
use Rattle.venue_counts.specs.VenueCounts.{allowed_by, are_those, asked_by, bound_of, floor_of, is_side}
use Rattle.venue_counts.specs.declared.limit.Limit.{Limit}
use Rattle.venue_counts.specs.declared.limit.Limit.TheVariants.{Most, Least}

-- what a class makes team i need: the slots that `max` leaves, or what `min` asks
abbrev pub need_by : Limit → Side → List ℕ → ℕ → Class → ℕ
need_by Most side slots i class = length slots - allowed_by side slots i class
need_by Least side slots i class = asked_by side slots i class

-- what a CA1 of so many slots makes a team of its own need
abbrev pub own_need : Limit → ℕ → ℕ → ℕ → ℕ
own_need Most min max count = count - max
own_need Least min max count = min

-- what the hard constraints make team i need
abbrev pub need_of : Limit → List Constraint → Side → List ℕ → ℕ → ℕ
need_of Most constraints side slots i = length slots - bound_of constraints side slots i
need_of Least constraints side slots i = floor_of constraints side slots i

-- whether all teams need more than there is
abbrev pub exceeds_at : Limit → ℕ → List Constraint → Side → List ℕ → Bool
exceeds_at limit n constraints side slots =
    nat_lt (length slots * (n / 2)) (sum_by (need_of limit constraints side slots) (teams_of n))

abbrev pub exceeds_by : Limit → ℕ → List Constraint → Class → Bool
exceeds_by limit n constraints (Ca1 teams min max side slots) = exceeds_at limit n constraints side slots
exceeds_by limit n constraints class = false

-- whether all teams need more than there is at the side and the slots of a hard CA1
abbrev pub exceeds : Limit → ℕ → List Constraint → Bool
exceeds limit n constraints = list_any (λ c. exceeds_by limit n constraints c.class) (hard_of constraints)

-- whether the slots' rows count games at home, where what is needed are games away; else the other way round
abbrev pub counts_home : Limit → Side → Bool
counts_home Most side = is_side side H
counts_home Least side = is_side side A

-- ---- which constraints a group holds

-- whether a class is a CA1 of this side and exactly these slots
abbrev pub bounds_at : Side → List ℕ → Class → Bool
bounds_at side slots (Ca1 teams min max other others) = are_those side slots other others
bounds_at side slots class = false

-- whether a hard constraint is
abbrev pub is_bounded : List Constraint → Side → List ℕ → Bool
is_bounded constraints side slots = list_any (λ c. bounds_at side slots c.class) (hard_of constraints)

-- ---- what is found

-- a side and slots at which all teams need more than there is, and the log of two steps
pub record IsCount (limit : Limit) (league : Instance) (log : List Step) : Type 0 where
  pub side : Side
  pub slots : List ℕ
  pub above : exceeds_at limit league.n league.constraints side slots ≡ true
  pub adds_up : AddsUp (rows_of league)
      (counted_rows league.n (counts_home limit side) slots (need_of limit league.constraints side slots))
      log
