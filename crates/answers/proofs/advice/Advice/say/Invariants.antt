use Rattle.std.specs.Prelude.{length}
use Rattle.answers.proofs.advice.Advice.say.Given as goal

abbrev pub decreases-items : goal.decreases-items
decreases-items l = length l.rest
