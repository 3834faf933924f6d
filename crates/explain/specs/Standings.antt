-- What is known of the members of a contradiction while it is made smaller.
use Rattle.std.specs.Prelude.{◌≡◌, ℕ, ◌+◌, ◌*◌, ◌≤◌, Bool, true, false, List, length, map}
use Rattle.std.specs.Prelude.{Option, None, Some, IfSome, slice_get}
use Rattle.std.specs.List.{All, count_by, filter, flat_map}
use Rattle.std.specs.Option.{option_to_list}
use Rattle.std.specs.Ordering.{nat_cmp}
use Rattle.league.specs.Instance.{Instance}
use Rattle.league.specs.Sets.{IsAscending}
use Rattle.encoding.specs.Encoding.{encoding_size}
use Rattle.encoding.specs.Variables.{var_count}
use Rattle.explain.specs.Parts.{is_hard_number, part_of}
use Rattle.refutation.specs.Steps.{Step}
use Rattle.solve.specs.Solutions.{RefutesLeague}
use Rattle.explain.specs.Conflicts.{IsCase}
use Rattle.explain.specs.declared.cases.Case.{Case}
use Rattle.explain.specs.declared.cases.Case.TheVariants.{Without, Undecided}
use Rattle.explain.specs.declared.explained.Explained.{Explained}
use Rattle.explain.specs.declared.explained.Explained.TheVariants.{Conflict}
use Rattle.explain.specs.declared.member.Contradiction.{Contradiction}
use Rattle.explain.specs.declared.member.Member.{Member}
use Rattle.encoding.specs.Limit.{most_terms}

abbrev pub numbers_of : List Member → List ℕ
numbers_of members = map (λ m. m.number) members

abbrev pub cases_of : List Member → List Case
cases_of members = flat_map (λ m. option_to_list m.case) members

-- a member of which nothing is known
abbrev pub open_member : ℕ → Member
open_member number = record { number = number; case = None }

-- ---- what holds of a contradiction

-- the members are hard constraints, and a log refutes the league of these alone; what is known of each holds; and that
-- league's rows are few
pub record IsExplained (league : Instance) (limit : Option ℕ) (may_stop : Type 0) (members : List Member) (log : List Step) : Type 0 where
  pub ascending : IsAscending nat_cmp (numbers_of members)
  pub hard : All (λ k. is_hard_number league.constraints k ≡ true) (numbers_of members)
  pub small : encoding_size (part_of league (numbers_of members)) ≤ most_terms
  pub few : var_count (part_of league (numbers_of members)) ≤ var_count league
  pub refuted : RefutesLeague (part_of league (numbers_of members)) log
  pub known : All (λ m. IfSome m.case (IsCase league limit may_stop (numbers_of members) m.number)) members

-- ---- members still to be tried

abbrev pub is_open_case : Option Case → Bool
is_open_case None = true
is_open_case (Some case) = false

abbrev pub is_open : Member → Bool
is_open m = is_open_case m.case

-- the member at a place is still to be tried
abbrev pub IsOpenAt : List Member → ℕ → Type 0
IsOpenAt members place = (m : Member) × ((slice_get members place ≡ Some m) × (is_open m ≡ true))

-- none is
abbrev pub AreClosed : List Member → Type 0
AreClosed members = All (λ m. is_open m ≡ false) members

-- what is left to do: to lose a member outweighs all that have to be tried again
abbrev pub work : List Member → ℕ
work members = length members * (length members + 1) + count_by is_open members

-- ---- a smaller contradiction

-- a spent log says nothing of fewer constraints
abbrev pub loosened : Option Case → Option Case
loosened None = None
loosened (Some (Without games)) = Some (Without games)
loosened (Some (Undecided log)) = None

abbrev pub reopened : Member → Member
reopened m = record { number = m.number; case = loosened m.case }

-- the members whose numbers pass
abbrev pub kept : (ℕ → Bool) → List Member → List Member
kept keep members = map reopened (filter (λ m. keep m.number) members)

-- ---- the answer

abbrev pub said_of : Contradiction → Explained
said_of c = Conflict (numbers_of c.members.items) c.log (cases_of c.members.items)
