use Rattle.moves.proofs.UndoLaw.{legal_moves-undo}
use Rattle.moves.proofs.laws.undo.Goals as goal

pub returns : goal.returns
returns c = legal_moves-undo
