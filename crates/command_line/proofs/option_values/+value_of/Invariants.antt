use Rattle.std.specs.Prelude.{length}
use Rattle.command_line.proofs.option_values.+value_of.Given as goal

-- each call is on fewer words
abbrev pub decreases-value_of : goal.decreases-value_of
decreases-value_of l = length l.words.now
