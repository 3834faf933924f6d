use Rattle.bound_rows.proofs.GroupLemmas.{units-more}
use Rattle.bound_rows.proofs.units.add_units.Goals as goal

pub loop-k-preserved : goal.loop-k-preserved
loop-k-preserved c =
    units-more c.args.first c.loop-k.k c.args.terms.now.items c.loop-k.terms.items _ c.new.result c.loop-k.invariant
    c.new.ensures c.in_ok-push.ensures.items
