-- The constraint of a GA1.
use Rattle.league.specs.declared.class.Class.{Class}
use Rattle.league.specs.declared.class.Class.TheVariants as class
use Rattle.deviation.specs.declared.ga1.Ga1.{Ga1}

-- the class that a rule was made of
abbrev pub class_of : Ga1 → Class
class_of r = class.Ga1 r.meetings.list r.min r.max r.slots
