use Rattle.std.proofs.Common.{ℕ, List, length, ap, sym, subst, arith}
use Rattle.encoding.specs.Ascending.{AreSlots}
use Rattle.encoding.proofs.FewLemmas.{slots_few}
use Rattle.encoding.proofs.MeetingOrder.{AreSlots-from_test}
use Rattle.encoding.proofs.sets.slot_numbers.Goals as goal

pub returns-clause-order : goal.returns-clause-order
returns-clause-order c =
    subst (λ (xs : List ℕ). AreSlots c.args.n xs) (sym c.numbers.ensures.numbers) (AreSlots-from_test c.args.n c.args.slots.now c.requires.slots)

pub returns-clause-few : goal.returns-clause-few
returns-clause-few c =
    omega (arith, ap length c.numbers.ensures.numbers, slots_few c.args.n c.args.slots.now c.requires.n c.requires.slots)
