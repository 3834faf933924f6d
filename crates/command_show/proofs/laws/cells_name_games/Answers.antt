use Rattle.command_show.proofs.CellLemmas.{cells_name}
use Rattle.command_show.proofs.laws.cells_name_games.Goals as goal

pub returns : goal.returns
returns c = cells_name
