-- What a class speaks of: so it is copied by kind, and passed whole.
use Rattle.std.specs.Prelude.{Bool, true, false}
use Rattle.league.specs.declared.class.Bounds.{Bounds}
use Rattle.league.specs.declared.class.Class.{Class}
use Rattle.league.specs.declared.class.Class.TheVariants.{Ca1, Ca2, Ca3, Ca4, Ga1, Br1, Br2, Fa2, Se1}

-- whether it speaks of some teams on a side in some slots
abbrev pub is_on_a_side : Class → Bool
is_on_a_side (Ca1 teams min max side slots) = true
is_on_a_side (Br1 teams intp side slots) = true
is_on_a_side _ = false

-- whether it sets teams against teams, and has no span
abbrev pub has_opponents : Class → Bool
has_opponents (Ca2 teams1 teams2 min max side slots) = true
has_opponents (Ca3 teams1 teams2 min max intp side) = true
has_opponents _ = false

-- whether it has no side
abbrev pub has_no_side : Class → Bool
has_no_side (Ga1 meetings min max slots) = true
has_no_side (Br2 teams intp slots) = true
has_no_side (Fa2 teams intp slots) = true
has_no_side (Se1 teams min) = true
has_no_side _ = false

-- whether it counts games or breaks, and bounds how many there are
abbrev pub has_bounds : Class → Bool
has_bounds (Fa2 teams intp slots) = false
has_bounds (Se1 teams min) = false
has_bounds _ = true

-- from how many to how many: breaks from none on, and a class that counts neither has no bounds
abbrev pub bounds_of : Class → Bounds
bounds_of (Ca1 teams min max side slots) = record { min = min; max = max }
bounds_of (Ca2 teams1 teams2 min max side slots) = record { min = min; max = max }
bounds_of (Ca3 teams1 teams2 min max intp side) = record { min = min; max = max }
bounds_of (Ca4 teams1 teams2 min max side span slots) = record { min = min; max = max }
bounds_of (Ga1 meetings min max slots) = record { min = min; max = max }
bounds_of (Br1 teams intp side slots) = record { min = 0; max = intp }
bounds_of (Br2 teams intp slots) = record { min = 0; max = intp }
bounds_of _ = record { min = 0; max = 0 }
