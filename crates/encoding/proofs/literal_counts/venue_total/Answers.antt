use Rattle.std.proofs.Common.{length, ap, sym, ◌∙◌}
use Rattle.league.specs.declared.class.Side.{Side}
use Rattle.encoding.specs.Lists.{venues_in}
use Rattle.encoding.proofs.SizeLemmas.{length-at_home, length-away}
use Rattle.encoding.proofs.literal_counts.venue_total.Goals as goal

pub returns-in-H-clause-count : goal.returns-in-H-clause-count
returns-in-H-clause-count c = λ i.
    let slots = c.args.slots.now in
    c.slot_total.ensures.count ∙ sym (length-at_home c.args.n i slots)
    ∙ sym (ap (λ (side : Side). length (venues_in side c.args.n i slots)) c.in-H.is)

pub returns-in-A-clause-count : goal.returns-in-A-clause-count
returns-in-A-clause-count c = λ i.
    let slots = c.args.slots.now in
    c.slot_total-in-A.ensures.count ∙ sym (length-away c.args.n i slots)
    ∙ sym (ap (λ (side : Side). length (venues_in side c.args.n i slots)) c.in-A.is)
