use Rattle.std.proofs.Common.{ℕ, ◌+◌, List, [], arith, map, subst, sym, take}
use Rattle.std.proofs.lemmas.List.{take_all}
use Rattle.league.proofs.FitLemmas.{are_slots-below}
use Rattle.encoding.specs.Encoding.{rows_of}
use Rattle.refutation.specs.declared.step.Part.{Part}
use Rattle.venue_counts.specs.CountLogs.{AreNamed, slot_row}
use Rattle.venue_counts.proofs.LogLemmas.{named-none, named-slot}
use Rattle.venue_counts.proofs.log.slot_parts.Goals as goal

pub loop-slot-init : goal.loop-slot-init
loop-slot-init c =
    let rows = rows_of c.args.encoding.now in
    subst (λ (parts : List Part). AreNamed rows parts []) (sym c.new-parts.ensures.items) (named-none rows)

pub slot_number-row-requires : goal.slot_number-row-requires
slot_number-row-requires c =
    are_slots-below c.args.encoding.now.n c.args.slots.now c.requires c.loop-slot.slot-index 0 c.loop-slot-test.true

pub loop-slot-preserved : goal.loop-slot-preserved
loop-slot-preserved c =
    let league = c.args.encoding.now in
    let row = slot_row league.n c.args.home in
    let k = c.loop-slot.slot-index in
    subst (λ (parts : List Part). AreNamed (rows_of league) parts (map row (take (k + 1) c.args.slots.now)))
    (sym c.in_ok-push.ensures.items)
    (named-slot (rows_of league) row c.loop-slot.parts.items c.args.slots.now k c.slot_number-row.result
    c.loop-slot.invariant c.loop-slot-test.true c.slot_number-row.ensures)

pub returns : goal.returns
returns c =
    let league = c.args.encoding.now in
    let row = slot_row league.n c.args.home in
    subst (λ (slots : List ℕ). AreNamed (rows_of league) c.loop-slot.parts.items (map row slots))
    (take_all c.loop-slot.slot-index c.args.slots.now (omega arith)) c.loop-slot.invariant
