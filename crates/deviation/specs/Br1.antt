-- The constraint of a BR1.
use Rattle.league.specs.declared.class.Class.{Class}
use Rattle.league.specs.declared.class.Class.TheVariants as class
use Rattle.deviation.specs.declared.br1.Br1.{Br1}

-- the class that a rule was made of
abbrev pub class_of : Br1 → Class
class_of r = class.Br1 r.scope.teams r.intp r.side r.scope.slots
