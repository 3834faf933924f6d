use Rattle.std.proofs.Common.{arith}
use Rattle.encoding.proofs.AscendLemmas.{AscendsBy-few}
use Rattle.encoding.proofs.literal_counts.team_total.Goals as goal

pub returns-clause-few : goal.returns-clause-few
returns-clause-few c = omega (arith, AscendsBy-few (λ t. t) 0 c.args.teams.now c.args.n c.requires.teams)
