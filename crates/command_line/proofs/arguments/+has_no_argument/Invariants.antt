use Rattle.std.specs.Prelude.{length}
use Rattle.command_line.proofs.arguments.+has_no_argument.Given as goal

-- each call is on fewer words
abbrev pub decreases-has_no_argument : goal.decreases-has_no_argument
decreases-has_no_argument l = length l.words.now
