use Rattle.deviation.proofs.SpanLemmas.{cut-one}
use Rattle.deviation.proofs.ca4.Ca4.slots_at.Goals as goal

pub returns-in-Every : goal.returns-in-Every
returns-in-Every c = cut-one c.args.self.now.span c.args.self.now.slots c.numbers-slots.result.now c.args.key c.in-Every.is c.requires c.numbers-slots.ensures.numbers
