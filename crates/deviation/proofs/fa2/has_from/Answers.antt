use Rattle.std.proofs.Common.{sym}
use Rattle.deviation.proofs.LeadLemmas.{any-by_last}
use Rattle.deviation.proofs.fa2.has_from.Goals as goal

pub returns-in-Some : goal.returns-in-Some
returns-in-Some c = sym (any-by_last c.args.slots.now c.args.slot c.in-Some.last.now c.requires (sym c.in-Some.ensures.value))
