use Rattle.descent.proofs.LeagueLemmas.{infeasibility-league, objective-league, vectors-league}
use Rattle.descent.proofs.tally_laws.league_sums.Goals as goal

pub returns-clause-vectors : goal.returns-clause-vectors
returns-clause-vectors g c = vectors-league g.R.Entries

pub returns-clause-hard : goal.returns-clause-hard
returns-clause-hard g c = infeasibility-league g.R.Entries

pub returns-clause-objective : goal.returns-clause-objective
returns-clause-objective g c = objective-league g.R.Entries
