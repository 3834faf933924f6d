-- What rows lack of being satisfied, and entries that are all 0.
use Rattle.std.specs.Prelude.{ℕ, Bool, ◌==◌, List}
use Rattle.std.specs.List.{list_all}
use Rattle.league.specs.Accepted.{hard_of}
use Rattle.league.specs.Bounds.{excess, largest}
use Rattle.league.specs.Counts.{Counts}
use Rattle.league.specs.Deviation.{vector_of}
use Rattle.league.specs.declared.class.Constraint.{Constraint}
use Rattle.rows.specs.Rows.{Row, weight}

-- how far a row's true literals are below its degree
abbrev pub shortfall : (ℕ → Bool) → Row → ℕ
shortfall values row = excess row.degree (weight values row.terms)

-- what the worst of some rows lacks: so many units more in each of them satisfy all
abbrev pub units_needed : (ℕ → Bool) → List Row → ℕ
units_needed values rows = largest (shortfall values) rows

-- whether some entries are all 0
abbrev pub all_zero : List ℕ → Bool
all_zero entries = list_all (λ entry. entry == 0) entries

-- whether each entry of each hard constraint is 0
abbrev pub meets_hard : ℕ → Counts → List Constraint → Bool
meets_hard n m constraints = list_all (λ c. all_zero (vector_of n m c.class)) (hard_of constraints)
