use Rattle.std.proofs.Common.{Bool, Some, ap, subst, sym, ◌∙◌}
use Rattle.league.specs.Counts.{slot_count}
use Rattle.league.specs.Instance.{Instance, IsTeamCount}
use Rattle.venue_counts.specs.CountLogs.{slot_row}
use Rattle.venue_counts.proofs.SlotLemmas.{slot_row-numbered}
use Rattle.venue_counts.proofs.numbers.slot_number.Goals as goal

pub rows_before_slots-before-requires-clause-teams : goal.rows_before_slots-before-requires-clause-teams
rows_before_slots-before-requires-clause-teams c =
    subst IsTeamCount (sym c.n.ensures.n) c.n.ensures.instance.teams

pub rows_before_slots-before-requires-clause-slots : goal.rows_before_slots-before-requires-clause-slots
rows_before_slots-before-requires-clause-slots c = c.slots.ensures.slots ∙ ap slot_count (sym c.n.ensures.n)

pub returns-then-home : goal.returns-then-home
returns-then-home c =
    (slot_row-numbered c.args.encoding.now c.n.result c.args.slot c.rows_before_slots-before.result c.from.result
    c.phased-phased.result c.n.ensures.n
    (c.phased-phased.ensures ∙ ap (λ (league : Instance). league.phased) c.league.ensures)
    c.n.ensures.instance.teams.even c.requires c.rows_before_slots-before.ensures.before c.from.ensures).0
    ∙ ap (λ (home : Bool). Some (slot_row c.args.encoding.now.n home c.args.slot)) (sym c.if-home.true)

pub returns-else-home : goal.returns-else-home
returns-else-home c =
    (slot_row-numbered c.args.encoding.now c.n.result c.args.slot c.rows_before_slots-before.result c.from.result
    c.phased-phased.result c.n.ensures.n
    (c.phased-phased.ensures ∙ ap (λ (league : Instance). league.phased) c.league.ensures)
    c.n.ensures.instance.teams.even c.requires c.rows_before_slots-before.ensures.before c.from.ensures).1
    ∙ ap (λ (home : Bool). Some (slot_row c.args.encoding.now.n home c.args.slot)) (sym c.if-home.false)
