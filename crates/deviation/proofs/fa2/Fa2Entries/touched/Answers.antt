use Rattle.deviation.proofs.Fa2Terms.{slots_ascending}
use Rattle.deviation.proofs.fa2.Fa2Entries.touched.Goals as goal

pub has_from-requires : goal.has_from-requires
has_from-requires c = slots_ascending c.args.self.now c.deref.result.now c.deref.ensures.value
