use Rattle.std.proofs.Common.{arith, sym}
use Rattle.season_misses.proofs.WalkLemmas.{same_lengths}
use Rattle.season_misses.proofs.row.are_same_games.Goals as goal

pub returns-then-games-others : goal.returns-then-games-others
returns-then-games-others c = sym (same_lengths c.args.games.now c.args.others.now (λ same. omega (arith, same)))
