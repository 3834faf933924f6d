use Rattle.std.specs.Prelude.{length}
use Rattle.command_line.proofs.option_names.+has_options.Given as goal

-- each call is on fewer words
abbrev pub decreases-has_options : goal.decreases-has_options
decreases-has_options l = length l.words.now
