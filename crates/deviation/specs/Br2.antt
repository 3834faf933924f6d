-- The constraint of a BR2.
use Rattle.league.specs.declared.class.Class.{Class}
use Rattle.league.specs.declared.class.Class.TheVariants as class
use Rattle.deviation.specs.declared.br2.Br2.{Br2}

-- the class that a rule was made of
abbrev pub class_of : Br2 → Class
class_of r = class.Br2 r.scope.teams r.intp r.scope.slots
