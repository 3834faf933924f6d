use Rattle.league.proofs.TableLemmas.{number-replicate}
use Rattle.league.proofs.grid.Grid.new.Goals as goal

pub returns : goal.returns
returns c = number-replicate 78 3120
