use Rattle.patterns.proofs.FewestLemmas.{distinct_patterns, fewest_breaks}
use Rattle.patterns.proofs.laws.fewest_breaks.Goals as goal

pub returns-clause-distinct : goal.returns-clause-distinct
returns-clause-distinct c = distinct_patterns

pub returns-clause-breaks : goal.returns-clause-breaks
returns-clause-breaks c = fewest_breaks
