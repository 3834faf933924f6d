-- The constraint of a CA1.
use Rattle.league.specs.declared.class.Class.{Class}
use Rattle.league.specs.declared.class.Class.TheVariants as class
use Rattle.deviation.specs.declared.ca1.Ca1.{Ca1}

-- the class that a rule was made of
abbrev pub class_of : Ca1 → Class
class_of r = class.Ca1 r.teams r.min r.max r.side r.slots
