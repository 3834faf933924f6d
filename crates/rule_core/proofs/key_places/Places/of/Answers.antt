use Rattle.std.proofs.Common.{◌+◌, get_or, refl, arith}
use Rattle.league.proofs.SetLemmas.{length-ascending}
use Rattle.rule_core.proofs.KeyPlaceLemmas.{ArePlaces-more, ArePlaces-none}
use Rattle.rule_core.proofs.key_places.Places.of.Goals as goal

pub loop-number-init : goal.loop-number-init
loop-number-init c = record { counted = refl; are = ArePlaces-none c.args.numbers.now }

pub overflow_add-next : goal.overflow_add-next
overflow_add-next c = omega (arith, length-ascending c.args.numbers.now 78 c.requires.ascending c.requires.below)

pub loop-number-preserved : goal.loop-number-preserved
loop-number-preserved c =
    let i = c.loop-number.number-index in
    record {
      counted = omega arith;
      are = ArePlaces-more c.args.numbers.now c.loop-number.places i (get_or c.args.numbers.now i 0) (c.loop-number.next + 1) c.requires.ascending c.loop-number-test.true refl (c.requires.below i 0 c.loop-number-test.true) (omega arith) c.loop-number.invariant.are;
    }
