-- The names of the nine classes (RobinX).
use Prim.Native.String.{String}
use Rattle.league.specs.declared.class.Class.{Class}
use Rattle.league.specs.declared.class.Class.TheVariants as class
use Rattle.league.specs.declared.class.ClassName.{ClassName}
use Rattle.league.specs.declared.class.ClassName.TheVariants.{Ca1, Ca2, Ca3, Ca4, Ga1, Br1, Br2, Fa2, Se1}

-- the name as it stands in files
abbrev pub name_text : ClassName → String
name_text Ca1 = "CA1"
name_text Ca2 = "CA2"
name_text Ca3 = "CA3"
name_text Ca4 = "CA4"
name_text Ga1 = "GA1"
name_text Br1 = "BR1"
name_text Br2 = "BR2"
name_text Fa2 = "FA2"
name_text Se1 = "SE1"

-- the name of a constraint's class
abbrev pub name_of : Class → ClassName
name_of (class.Ca1 teams min max side slots) = Ca1
name_of (class.Ca2 teams1 teams2 min max side slots) = Ca2
name_of (class.Ca3 teams1 teams2 min max intp side) = Ca3
name_of (class.Ca4 teams1 teams2 min max side span slots) = Ca4
name_of (class.Ga1 meetings min max slots) = Ga1
name_of (class.Br1 teams intp side slots) = Br1
name_of (class.Br2 teams intp slots) = Br2
name_of (class.Fa2 teams intp slots) = Fa2
name_of (class.Se1 teams min) = Se1
