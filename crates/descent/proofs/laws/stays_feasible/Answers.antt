use Rattle.descent.proofs.TrailLemmas.{trails-stay_feasible}
use Rattle.descent.proofs.laws.stays_feasible.Goals as goal

pub returns : goal.returns
returns c = trails-stay_feasible
