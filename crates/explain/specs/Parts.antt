-- The parts of a league: some of its hard constraints alone. The constraints have the numbers 1, 2, .. in file order,
-- soft ones too.
use Rattle.std.specs.Prelude.{ℕ, zero, suc, ◌==◌, Bool, false, not, List, [], ◌∷◌, length, Option, Some, None}
use Rattle.std.specs.Prelude.{slice_get}
use Rattle.std.specs.List.{filter, find, flat_map, range_with_len}
use Rattle.league.specs.Instance.{Instance}
use Rattle.league.specs.declared.class.Constraint.{Constraint}

-- the constraint with a number
abbrev pub constraint_numbered : List Constraint → ℕ → Option Constraint
constraint_numbered constraints zero = None
constraint_numbered constraints (suc k) = slice_get constraints k

-- whether there is one, and it is hard
abbrev pub is_hard : Option Constraint → Bool
is_hard None = false
is_hard (Some constraint) = constraint.hard

-- whether a number is that of a hard constraint
abbrev pub is_hard_number : List Constraint → ℕ → Bool
is_hard_number constraints k = is_hard (constraint_numbered constraints k)

-- the numbers of the hard constraints
abbrev pub hard_numbers : List Constraint → List ℕ
hard_numbers constraints = filter (is_hard_number constraints) (range_with_len 1 (length constraints))

-- what there is, as a list
abbrev pub listed : Option Constraint → List Constraint
listed None = []
listed (Some constraint) = constraint ∷ []

-- the constraints with these numbers
abbrev pub numbered : List Constraint → List ℕ → List Constraint
numbered constraints members = flat_map (λ k. listed (constraint_numbered constraints k)) members

-- the part of a league for some numbers: the constraints with these numbers alone
abbrev pub part_of : Instance → List ℕ → Instance
part_of league members = record {
  n = league.n;
  phased = league.phased;
  constraints = numbered league.constraints members;
}

-- the first of some numbers that no hard constraint has
abbrev pub first_other : List Constraint → List ℕ → Option ℕ
first_other constraints members = find (λ k. not (is_hard_number constraints k)) members

abbrev pub first_unknown : Instance → List ℕ → Option ℕ
first_unknown league members = first_other league.constraints members

-- the numbers but for one
abbrev pub without : ℕ → List ℕ → List ℕ
without k members = filter (λ j. not (j == k)) members
