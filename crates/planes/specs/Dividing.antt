-- How a row is divided. Before that literals are weakened, that is, they count less, and the degree as much less.
use Rattle.std.specs.Prelude.{ℕ, ◌%◌, ℤ, pos, if◌then◌else◌}
use Rattle.rows.specs.Literals.{Literal}
use Rattle.planes.specs.Numbers.{divided_up, from_one, from_zero}
use Rattle.planes.specs.Trails.{is_false_at, standing_of}
use Rattle.planes.specs.declared.reason.Scaled.{Scaled}
use Rattle.planes.specs.declared.trail.Moment.{Moment}
use Rattle.planes.specs.declared.trail.Trail.{Trail}

-- so much is taken off a literal: nothing where it was false at a moment, and else what it counts more than a multiple of
-- the divisor
abbrev pub taken_off : Trail → Moment → Literal → ℤ → ℤ → ℕ
taken_off trail moment l coef divisor =
    if is_false_at moment (standing_of trail l) then 0 else from_zero coef % from_one divisor

-- a term divided, rounding up
abbrev pub divided_term : ℤ → Scaled → Scaled
divided_term divisor term = record { lit = term.lit; coef = pos (divided_up term.coef divisor) }
