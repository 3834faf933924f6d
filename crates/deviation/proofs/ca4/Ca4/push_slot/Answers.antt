use Rattle.std.proofs.Common.{ap, sym, ◌∙◌}
use Rattle.league.specs.Deviation.{spans}
use Rattle.league.specs.Sets.{is_in}
use Rattle.league.specs.declared.class.Span.{Span}
use Rattle.rule_core.specs.Keys.{keys_where, with_keys}
use Rattle.deviation.proofs.SpanLemmas.{slot_key}
use Rattle.deviation.proofs.ca4.Ca4.push_slot.Goals as goal

pub returns-in-Every : goal.returns-in-Every
returns-in-Every c =
    c.push_key.ensures
    ∙ ap (with_keys c.args.keys.now)
    (slot_key c.args.self.now.slots c.args.slot
    ∙ ap (λ (span : Span). keys_where (is_in c.args.slot) (spans span c.args.self.now.slots)) (sym c.in-Every.is))
