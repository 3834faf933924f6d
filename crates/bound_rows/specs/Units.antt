-- Values that satisfy bound rows: of the unit variables of a group the first ones are true, so many as are needed.
use Rattle.std.specs.Prelude.{ℕ, ◌+◌, ◌*◌, Bool, nat_lt, not, ◌==◌, if◌then◌else◌, List, [], ◌∷◌}
use Rattle.std.specs.List.{sum_by}
use Rattle.league.specs.Counts.{Counts}
use Rattle.league.specs.Deviation.{deviation_of}
use Rattle.league.specs.declared.class.Class.{Class}
use Rattle.league.specs.declared.class.Class.TheVariants.{Se1}
use Rattle.rows.specs.Tests.{true_count}
use Rattle.decoding.specs.Shortfalls.{units_needed}
use Rattle.bound_rows.specs.Softening.{Group, units_from}

-- how many units a part needs in a schedule: its deviation, but of SE1 one where it lacks anything
abbrev pub need_of : ℕ → Counts → Class → ℕ
need_of n m (Se1 teams min) = if not (deviation_of n m (Se1 teams min) == 0) then 1 else 0
need_of n m other = deviation_of n m other

-- values that are kept below the first unit variable
abbrev pub with_units : (ℕ → Bool) → ℕ → List Group → ℕ → Bool
with_units values first [] v = values v
with_units values first (g ∷ groups) v =
    if nat_lt v first then values v else (if nat_lt v (first + g.units)
    then nat_lt v (first + units_needed values g.rows) else with_units values (first + g.units) groups v)

-- what the true unit variables of some groups cost
abbrev pub paid : (ℕ → Bool) → ℕ → List Group → ℕ
paid values first [] = 0
paid values first (g ∷ groups) =
    g.penalty * true_count values (units_from first g.units) + paid values (first + g.units) groups

-- what the units cost that some groups need
abbrev pub cost_needed : (ℕ → Bool) → List Group → ℕ
cost_needed values groups = sum_by (λ g. g.penalty * units_needed values g.rows) groups
