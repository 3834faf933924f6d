use Rattle.std.specs.Prelude.{length}
use Rattle.command_line.proofs.arguments.+one_file.Given as goal

-- each call is on fewer words
abbrev pub decreases-one_file : goal.decreases-one_file
decreases-one_file l = length l.words.now
