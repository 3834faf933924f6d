use Rattle.std.specs.Prelude.{length}
use Rattle.command_line.proofs.arguments.+one_number.Given as goal

-- each call is on fewer words
abbrev pub decreases-one_number : goal.decreases-one_number
decreases-one_number l = length l.words.now
