use Rattle.std.specs.Prelude.{length}
use Rattle.command_line.proofs.fault.wrong_option.Given as goal

-- each turn takes a word
abbrev pub decreases-words : goal.decreases-words
decreases-words l = length l.rest
