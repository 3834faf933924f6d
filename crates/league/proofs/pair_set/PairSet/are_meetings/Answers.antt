use Rattle.league.specs.Sets.{pair_cmp}
use Rattle.league.proofs.AscendingLemmas.{and_passes, ascends-true}
use Rattle.league.proofs.pair_set.PairSet.are_meetings.Goals as goal

pub returns : goal.returns
returns c = and_passes _ _ _ (rw c.numbers.ensures.numbers at c.all_meetings.ensures) (ascends-true pair_cmp _ c.numbers.ensures.ascending)
