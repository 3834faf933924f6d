use Rattle.std.proofs.Common.{refl}
use Rattle.floors.proofs.CheckLemmas.{floor-none}
use Rattle.floors.proofs.floor.no_floor.Goals as goal

pub returns : goal.returns
returns c league = floor-none league _ refl c.new.ensures
