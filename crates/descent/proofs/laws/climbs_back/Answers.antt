use Rattle.descent.proofs.BackLaw.{trails-climb_back}
use Rattle.descent.proofs.laws.climbs_back.Goals as goal

pub returns : goal.returns
returns c = trails-climb_back
