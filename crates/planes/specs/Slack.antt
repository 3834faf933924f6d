-- The slack of a row that is worked out. Its literals are the touched ones.
use Rattle.std.specs.Prelude.{ℕ, max, Bool, true, false, ℤ, pos, ◌-ℤ◌, ◌<ℤ◌, List, Option, Some, None}
use Rattle.std.specs.List.{fold, sum_by}
use Rattle.rows.specs.Literals.{Literal}
use Rattle.planes.specs.Coefs.{coef_of}
use Rattle.planes.specs.Numbers.{from_zero, minus, size_of}
use Rattle.planes.specs.Trails.{side_at, standing_of}
use Rattle.planes.specs.declared.plane.Plane.{Plane}
use Rattle.planes.specs.declared.trail.Trail.{Trail}

-- what isn't false of a literal that counts so much and of its negation
abbrev pub not_false_of : ℤ → Option Bool → ℕ
not_false_of count None = size_of count
not_false_of count (Some true) = from_zero count
not_false_of count (Some false) = from_zero (minus count)

-- what is free of them
abbrev pub free_of : ℤ → Option Bool → ℕ
free_of count None = size_of count
free_of count (Some _) = 0

-- what isn't false of a literal and its negation at the end of a level, and what is free of them there
unfoldable pub not_false_at : List ℤ → Trail → ℕ → Literal → ℕ
not_false_at counts trail level l = not_false_of (coef_of counts l) (side_at level (standing_of trail l))

unfoldable pub free_at : List ℤ → Trail → ℕ → Literal → ℕ
free_at counts trail level l = free_of (coef_of counts l) (side_at level (standing_of trail l))

-- the slack at the end of a level: what the literals sum to that aren't false there, less the degree
abbrev pub slack_at : Plane → Trail → ℕ → ℤ
slack_at plane trail level = pos (sum_by (not_false_at plane.counts.coefs.items trail level) plane.counts.touched.items) -ℤ plane.degree

-- the greatest coefficient of a literal that is free there, or 0
abbrev pub most_at : Plane → Trail → ℕ → ℕ
most_at plane trail level = fold (λ most l. max (free_at plane.counts.coefs.items trail level l) most) 0 plane.counts.touched.items

-- the row forces a literal at the end of a level, or is in conflict there: the slack is below such a coefficient, or below 0
pub record IsActive (plane : Plane) (trail : Trail) (level : ℕ) : Type 0 where
  pub below : slack_at plane trail level <ℤ pos (most_at plane trail level)
