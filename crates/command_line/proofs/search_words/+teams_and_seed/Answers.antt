use Rattle.std.proofs.Common.{arith}
use Rattle.std.proofs.lemmas.Bool.Decides.{nat_tests}
use Rattle.command_line.proofs.StandingLemmas.{teams_and_seed-none}
use Rattle.command_line.proofs.search_words.+teams_and_seed.Goals as goal

pub returns-in-empty : goal.returns-in-empty
returns-in-empty t c = teams_and_seed-none c.args.words.now (grind (arith, nat_tests))
