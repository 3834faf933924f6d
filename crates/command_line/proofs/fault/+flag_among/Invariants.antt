use Rattle.std.specs.Prelude.{length}
use Rattle.command_line.proofs.fault.+flag_among.Given as goal

-- each call is on fewer words
abbrev pub decreases-flag_among : goal.decreases-flag_among
decreases-flag_among l = length l.words.now
