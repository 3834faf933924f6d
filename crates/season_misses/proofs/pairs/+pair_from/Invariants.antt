use Rattle.std.proofs.Common.{length}
use Rattle.season_misses.proofs.pairs.+pair_from.Given as goal

abbrev pub decreases-pair_from : goal.decreases-pair_from
decreases-pair_from l = length l.teams.now
