-- The constraint of a CA4.
use Rattle.league.specs.declared.class.Class.{Class}
use Rattle.league.specs.declared.class.Class.TheVariants as class
use Rattle.deviation.specs.declared.ca4.Ca4.{Ca4}

-- the class that a rule was made of
abbrev pub class_of : Ca4 → Class
class_of r = class.Ca4 r.opponents.teams1 r.opponents.teams2 r.min r.max r.opponents.side r.span r.slots
