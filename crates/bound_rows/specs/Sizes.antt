-- How many terms bound rows have, part by part.
use Rattle.std.specs.Prelude.{ℕ, ◌+◌, ◌-◌, ◌*◌, max, nat_lt, if◌then◌else◌, List, length}
use Rattle.std.specs.List.{sum_by}
use Rattle.league.specs.Bounds.{largest}
use Rattle.league.specs.declared.class.Class.{Class}
use Rattle.league.specs.declared.class.Constraint.{Constraint}
use Rattle.rows.specs.Rows.{Row}
use Rattle.encoding.specs.Encoding.{class_rows}
use Rattle.encoding.specs.Keys.{Bounded, key_of, places_of, subjects_of}
use Rattle.encoding.specs.declared.subjects.Subject.{Subject}
use Rattle.bound_rows.specs.BoundRows.{paid_of, units_of}
use Rattle.bound_rows.specs.Parts.{parts_of}

-- the rows of a group with so many units, the units in the objective row, and the rows that order them
abbrev pub group_size : ℕ → List Row → ℕ
group_size units rows = sum_by (λ r. length r.terms + units) rows + units + 2 * (units - 1)

abbrev pub part_size : ℕ → Class → ℕ
part_size n part = group_size (units_of part (class_rows n part)) (class_rows n part)

abbrev pub parts_size : ℕ → List Class → ℕ
parts_size n parts = sum_by (part_size n) parts

abbrev pub paid_size : ℕ → List Constraint → ℕ
paid_size n constraints = sum_by (λ c. parts_size n (parts_of n c.class)) (paid_of constraints)

-- ---- by the number of literals

-- a row of so many literals with so many units: one that demands nothing isn't listed
abbrev pub row_size : ℕ → ℕ → ℕ → ℕ
row_size units degree count = if nat_lt 0 degree then count + units else 0

-- the terms of the units outside of the rows of their group: in the objective row, and in the rows that order them
abbrev pub units_size : ℕ → ℕ
units_size units = units + 2 * (units - 1)

-- the two rows that bound so many literals from low to high, in a group with so many units
abbrev pub bounds_size : ℕ → ℕ → ℕ → ℕ → ℕ
bounds_size units low high count = row_size units low count + row_size units (count - high) count

-- how many units they want: as many as the larger degree
abbrev pub between_units : ℕ → ℕ → ℕ → ℕ
between_units low high count = max low (count - high)

-- a group of these two rows
abbrev pub between_size : ℕ → ℕ → ℕ → ℕ
between_size low high count =
    bounds_size (between_units low high count) low high count + units_size (between_units low high count)

-- the group of a key, those of a subject, and those of all subjects
abbrev pub key_size : Bounded → ℕ
key_size key = between_size key.low key.high (length key.literals)

abbrev pub subject_size : ℕ → Class → Subject → ℕ
subject_size n class subject = sum_by (λ place. key_size (key_of n class subject place)) (places_of n class)

abbrev pub subjects_size : ℕ → Class → ℕ
subjects_size n class = sum_by (subject_size n class) (subjects_of class)

-- the rows of a key in a group with so many units, and how many units they want
abbrev pub key_rows_size : ℕ → Bounded → ℕ
key_rows_size units key = bounds_size units key.low key.high (length key.literals)

abbrev pub key_units : Bounded → ℕ
key_units key = between_units key.low key.high (length key.literals)

-- the one group of all keys of a subject, as of two teams of an FA2: it has as many units as any of the keys wants
abbrev pub shared_units : ℕ → Class → Subject → ℕ
shared_units n class subject = largest (λ place. key_units (key_of n class subject place)) (places_of n class)

abbrev pub shared_size : ℕ → Class → Subject → ℕ
shared_size n class subject =
    sum_by (λ place. key_rows_size (shared_units n class subject) (key_of n class subject place)) (places_of n class)
    + units_size (shared_units n class subject)
