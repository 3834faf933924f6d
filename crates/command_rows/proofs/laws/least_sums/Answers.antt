-- Each law is a theorem about the definitions.
use Rattle.command_rows.proofs.LeastLaws.{seasons-from_sums, sums-from_seasons}
use Rattle.command_rows.proofs.laws.least_sums.Goals as goal

pub returns-clause-enough : goal.returns-clause-enough
returns-clause-enough c = seasons-from_sums

pub returns-clause-reached : goal.returns-clause-reached
returns-clause-reached c = sums-from_seasons
