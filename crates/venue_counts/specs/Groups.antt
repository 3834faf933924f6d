-- Groups of hard CA1 with one side and one set of slots, as they are kept.
use Rattle.std.specs.Prelude.{◌≡◌, ℕ, ◌<◌, true, max, List, length, Option, Some, IsSome, slice_get, slice_index}
use Rattle.std.specs.Prelude.{slice_index_or, nat_lt, if◌then◌else◌, Contains}
use Rattle.std.specs.List.{All}
use Rattle.league.specs.Instance.{are_slots, is_one_side}
use Rattle.league.specs.Sets.{is_in}
use Rattle.league.specs.declared.class.Constraint.{Constraint}
use Rattle.league.specs.declared.class.Side.{Side}
use Rattle.venue_counts.specs.Keys.{key_of}
use Rattle.venue_counts.specs.Needs.{is_bounded, need_by, need_of}
use Rattle.venue_counts.specs.declared.group.Group.{Group}
use Rattle.venue_counts.specs.declared.limit.Limit.{Limit}

-- the constraint at a place is hard, and makes team i need so much
pub record MakesNeed (limit : Limit) (constraints : List Constraint) (side : Side) (slots : List ℕ) (i need place : ℕ)
    : Type 0 where
  pub constraint : Constraint
  pub there : slice_get constraints place ≡ Some constraint
  pub hard : constraint.hard ≡ true
  pub makes : need_by limit side slots i constraint.class ≡ need

-- what each team needs, by the constraints so far, and the place of the one by which it needs that
pub record IsGroup (limit : Limit) (n : ℕ) (constraints : List Constraint) (g : Group) : Type 0 where
  pub one : is_one_side g.side ≡ true
  pub season : are_slots n g.slots.now ≡ true
  pub count : length g.needs.items ≡ n
  pub needs : (i : ℕ) → i < n → slice_index g.needs.items i ≡ need_of limit constraints g.side g.slots.now i
  pub places : length g.causes.items ≡ n
  pub causes : (i : ℕ) → i < n → 0 < slice_index g.needs.items i
      → MakesNeed limit constraints g.side g.slots.now i (slice_index g.needs.items i) (slice_index g.causes.items i)

-- a group is that of a side and some slots
pub record IsOf (side : Side) (slots : List ℕ) (g : Group) : Type 0 where
  pub side_is : g.side ≡ side
  pub slots_are : g.slots.now ≡ slots

abbrev pub key_at : Group → ℕ
key_at g = key_of g.side g.slots.now

-- each group is found by its key, and nothing else is
pub record AreFound (groups : List Group) (find : ℕ → Option ℕ) : Type 0 where
  pub placed : (p : ℕ) (d : Group) → p < length groups → find (key_at (slice_index_or groups p d)) ≡ Some p
  pub within : (q p : ℕ) → find q ≡ Some p → p < length groups
  pub key : (q p : ℕ) (d : Group) → find q ≡ Some p → key_at (slice_index_or groups p d) ≡ q

-- the groups of the constraints so far
pub record AreGroups (limit : Limit) (n : ℕ) (constraints : List Constraint) (groups : List Group)
    (find : ℕ → Option ℕ) : Type 0 where
  pub each : All (IsGroup limit n constraints) groups
  pub seen : (side : Side) (slots : List ℕ) → is_bounded constraints side slots ≡ true
      → IsSome (find (key_of side slots))

-- all groups: each side with slots that a hard constraint bounds has one
pub record AreAllGroups (limit : Limit) (n : ℕ) (constraints : List Constraint) (groups : List Group) : Type 0 where
  pub each : All (IsGroup limit n constraints) groups
  pub complete : (side : Side) (slots : List ℕ) → is_one_side side ≡ true → are_slots n slots ≡ true
      → is_bounded constraints side slots ≡ true
      → (g : Group) × Contains groups g × IsOf side slots g

-- ---- one step

-- a group in which nothing is needed yet
pub record IsFresh (n : ℕ) (side : Side) (slots : List ℕ) (g : Group) : Type 0 where
  pub side_is : g.side ≡ side
  pub slots_are : g.slots.now ≡ slots
  pub count : length g.needs.items ≡ n
  pub none : (i : ℕ) → i < n → slice_index g.needs.items i ≡ 0
  pub places : length g.causes.items ≡ n

-- what each of these teams needs is raised to at least this
abbrev pub AreRaised : List ℕ → List ℕ → ℕ → List ℕ → Type 0
AreRaised teams before need after = (i : ℕ) → slice_index after i
    ≡ (if is_in i teams then max (slice_index before i) need else slice_index before i)

-- where that raises what a team needs, its cause is this one
abbrev pub AreNoted : List ℕ → List ℕ → ℕ → ℕ → List ℕ → List ℕ → Type 0
AreNoted teams needs need cause before after = (i : ℕ) → slice_index after i
    ≡ (if is_in i teams
    then (if nat_lt (slice_index needs i) need then cause else slice_index before i)
    else slice_index before i)

-- a group with these numbers raised, and the cause noted
pub record IsRaised (teams : List ℕ) (need cause : ℕ) (before after : Group) : Type 0 where
  pub side_is : after.side ≡ before.side
  pub slots_are : after.slots.now ≡ before.slots.now
  pub count : length after.needs.items ≡ length before.needs.items
  pub raised : AreRaised teams before.needs.items need after.needs.items
  pub places : length after.causes.items ≡ length before.causes.items
  pub noted : AreNoted teams before.needs.items need cause before.causes.items after.causes.items
