use Rattle.std.specs.Prelude.{length}
use Rattle.command_line.proofs.arguments.+first_argument.Given as goal

-- each call is on fewer words
abbrev pub decreases-first_argument : goal.decreases-first_argument
decreases-first_argument l = length l.words.now
