use Rattle.std.specs.Ordering.{nat_cmp}
use Rattle.league.proofs.AscendingLemmas.{and_passes, ascends-true}
use Rattle.league.proofs.slot_set.SlotSet.are_in_season.Goals as goal

pub returns : goal.returns
returns c = and_passes _ _ _ (rw c.numbers.ensures.numbers at c.all_in_season.ensures) (ascends-true nat_cmp _ c.numbers.ensures.ascending)
