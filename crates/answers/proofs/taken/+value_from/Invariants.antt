use Rattle.std.specs.Prelude.{length}
use Rattle.answers.proofs.taken.+value_from.Given as goal

-- each call is on fewer words
abbrev pub decreases-value_from : goal.decreases-value_from
decreases-value_from l = length l.words.now
