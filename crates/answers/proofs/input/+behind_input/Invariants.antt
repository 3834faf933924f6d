use Rattle.std.specs.Prelude.{length}
use Rattle.answers.proofs.input.+behind_input.Given as goal

-- each call is on fewer words
abbrev pub decreases-behind_input : goal.decreases-behind_input
decreases-behind_input l = length l.words.now
