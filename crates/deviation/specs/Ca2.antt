-- The constraint of a CA2.
use Rattle.league.specs.declared.class.Class.{Class}
use Rattle.league.specs.declared.class.Class.TheVariants as class
use Rattle.deviation.specs.declared.ca2.Ca2.{Ca2}

-- the class that a rule was made of
abbrev pub class_of : Ca2 → Class
class_of r = class.Ca2 r.opponents.teams1 r.opponents.teams2 r.min r.max r.opponents.side r.slots
