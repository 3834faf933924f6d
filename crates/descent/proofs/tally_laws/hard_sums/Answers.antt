use Rattle.descent.proofs.LeagueLemmas.{hard_sum-met, hard_sum-own}
use Rattle.descent.proofs.tally_laws.hard_sums.Goals as goal

pub returns-clause-own : goal.returns-clause-own
returns-clause-own c = hard_sum-own

pub returns-clause-met : goal.returns-clause-met
returns-clause-met c = hard_sum-met
