-- The constraint of a CA3.
use Rattle.league.specs.declared.class.Class.{Class}
use Rattle.league.specs.declared.class.Class.TheVariants as class
use Rattle.deviation.specs.declared.ca3.Ca3.{Ca3}

-- the class that a rule was made of
abbrev pub class_of : Ca3 → Class
class_of r = class.Ca3 r.opponents.teams1 r.opponents.teams2 r.min r.max r.intp r.opponents.side
