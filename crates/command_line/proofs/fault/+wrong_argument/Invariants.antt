use Rattle.std.specs.Prelude.{length}
use Rattle.command_line.proofs.fault.+wrong_argument.Given as goal

-- each call is on fewer words
abbrev pub decreases-wrong_argument : goal.decreases-wrong_argument
decreases-wrong_argument l = length l.words.now
