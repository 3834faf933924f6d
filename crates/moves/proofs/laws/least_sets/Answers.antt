use Rattle.moves.proofs.ClosureLaw.{closures-least}
use Rattle.moves.proofs.laws.least_sets.Goals as goal

pub returns : goal.returns
returns c = closures-least
