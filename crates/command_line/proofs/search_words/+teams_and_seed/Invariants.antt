use Rattle.std.specs.Prelude.{length}
use Rattle.command_line.proofs.search_words.+teams_and_seed.Given as goal

-- each call is on fewer words
abbrev pub decreases-teams_and_seed : goal.decreases-teams_and_seed
decreases-teams_and_seed l = length l.words.now
