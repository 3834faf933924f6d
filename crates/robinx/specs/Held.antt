-- What is known of the numbers of a constraint that is held in memory: they have 32 bits.
use Rattle.std.specs.Prelude.{◌<◌, ◌^◌}
use Rattle.league.specs.declared.class.Class.{Class}
use Rattle.league.specs.declared.class.Class.TheVariants.{Ca1, Ca2, Ca3, Ca4, Ga1, Br1, Br2, Fa2, Se1}
use Rattle.league.specs.declared.class.Constraint.{Constraint}

-- the numbers of a class
abbrev pub IsHeldClass : Class → Type 0
IsHeldClass (Ca1 teams min max side slots) = (min < 2 ^ 32) × (max < 2 ^ 32)
IsHeldClass (Ca2 teams1 teams2 min max side slots) = (min < 2 ^ 32) × (max < 2 ^ 32)
IsHeldClass (Ca3 teams1 teams2 min max intp side) = (min < 2 ^ 32) × (max < 2 ^ 32) × (intp < 2 ^ 32)
IsHeldClass (Ca4 teams1 teams2 min max side span slots) = (min < 2 ^ 32) × (max < 2 ^ 32)
IsHeldClass (Ga1 meetings min max slots) = (min < 2 ^ 32) × (max < 2 ^ 32)
IsHeldClass (Br1 teams intp side slots) = intp < 2 ^ 32
IsHeldClass (Br2 teams intp slots) = intp < 2 ^ 32
IsHeldClass (Fa2 teams intp slots) = intp < 2 ^ 32
IsHeldClass (Se1 teams min) = min < 2 ^ 32

-- the penalty too
abbrev pub IsHeld : Constraint → Type 0
IsHeld c = (c.penalty < 2 ^ 32) × IsHeldClass c.class
