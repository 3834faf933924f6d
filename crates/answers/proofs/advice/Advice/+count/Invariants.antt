use Rattle.answers.proofs.advice.Advice.+count.Given as goal

abbrev pub decreases-count : goal.decreases-count
decreases-count l = l.number
