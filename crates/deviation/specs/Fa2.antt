-- The constraint of an FA2.
use Rattle.league.specs.declared.class.Class.{Class}
use Rattle.league.specs.declared.class.Class.TheVariants as class
use Rattle.deviation.specs.declared.fa2.Fa2.{Fa2}

-- the class that a rule was made of
abbrev pub class_of : Fa2 → Class
class_of r = class.Fa2 r.pairs r.intp r.slots.items
