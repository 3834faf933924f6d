-- Groups without their rows: the objective row and the rows that order units say nothing of these.
use Rattle.std.specs.Prelude.{ℕ, List, [], map}
use Rattle.std.specs.List.{sum_by}
use Rattle.bound_rows.specs.Softening.{Group}
use Rattle.bound_rows.specs.declared.units.Units.{Units}

-- what is kept of a group
abbrev pub bare : Units → Group
bare u = record { penalty = u.penalty; units = u.units; rows = [] }

abbrev pub bare_groups : List Units → List Group
bare_groups units = map bare units

-- how many unit variables some groups have
abbrev pub unit_total : List Units → ℕ
unit_total units = sum_by (λ u. u.units) units
