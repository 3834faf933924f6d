use Rattle.std.proofs.Common.{arith}
use Rattle.league.specs.Counts.{slot_count}
use Rattle.encoding.proofs.AscendLemmas.{AscendsBy-few}
use Rattle.encoding.proofs.literal_counts.later_total.Goals as goal

pub returns-clause-few : goal.returns-clause-few
returns-clause-few c =
    omega (
      arith,
      c.later_count.ensures.few,
      AscendsBy-few (λ s. s) 0 c.args.slots.now (slot_count c.args.n) c.requires.slots,
    )
