-- How literals stand on a trail. A variable that it doesn't have is free.
use Rattle.std.specs.Prelude.{ℕ, Bool, true, false, nat_lt, nat_le, Option, Some, None, length, slice_get, slice_index_or, if◌then◌else◌}
use Rattle.rows.specs.Literals.{Literal}
use Rattle.rows.specs.Partials.{value_of}
use Rattle.rows.specs.declared.partial.Value.{Value}
use Rattle.rows.specs.declared.partial.Value.TheVariants as value_kinds
use Rattle.planes.specs.declared.trail.Entry.{Entry}
use Rattle.planes.specs.declared.trail.Moment.{Moment}
use Rattle.planes.specs.declared.trail.Moment.TheVariants.{Before, EndOf}
use Rattle.planes.specs.declared.trail.Standing.{Standing}
use Rattle.planes.specs.declared.trail.Standing.TheVariants.{Free, True, False}
use Rattle.planes.specs.declared.trail.Trail.{Trail}

-- the number of decisions
abbrev pub level_of : Trail → ℕ
level_of trail = length trail.decisions.items

-- the value of a variable
abbrev pub valued : Trail → ℕ → Value
valued trail v = slice_index_or trail.values.items v value_kinds.Free

-- how a literal stands that has this value by the entry at this place
abbrev pub standing_by : Value → Option Entry → ℕ → Standing
standing_by value_kinds.Free _ _ = Free
standing_by value_kinds.True None _ = Free
standing_by value_kinds.True (Some entry) _ = True entry.level
standing_by value_kinds.False None _ = Free
standing_by value_kinds.False (Some entry) place = False entry.level place

-- how a literal stands
unfoldable pub standing_of : Trail → Literal → Standing
standing_of trail l =
    let place = slice_index_or trail.places.items l.var 0 in
    standing_by (value_of (valued trail) l) (slice_get trail.entries.items place) place

-- whether what stands so was false at a moment
abbrev pub is_false_at : Moment → Standing → Bool
is_false_at _ Free = false
is_false_at _ (True _) = false
is_false_at (Before limit) (False _ place) = nat_lt place limit
is_false_at (EndOf end) (False level _) = nat_le level end

-- what stands so is true or false at the end of a level
abbrev pub side_at : ℕ → Standing → Option Bool
side_at _ Free = None
side_at end (True level) = if nat_le level end then Some true else None
side_at end (False level _) = if nat_le level end then Some false else None
