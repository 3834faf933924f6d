-- The constraint of an SE1.
use Rattle.league.specs.declared.class.Class.{Class}
use Rattle.league.specs.declared.class.Class.TheVariants as class
use Rattle.deviation.specs.declared.se1.Se1.{Se1}

-- the class that a rule was made of
abbrev pub class_of : Se1 → Class
class_of r = class.Se1 r.pairs r.min
