use Rattle.bound_rows.proofs.GroupLemmas.{costs-more}
use Rattle.bound_rows.proofs.units.add_costs.Goals as goal

pub loop-k-preserved : goal.loop-k-preserved
loop-k-preserved c =
    costs-more c.args.penalty c.args.first c.loop-k.k c.args.terms.now.items c.loop-k.terms.items _ c.new.result
    c.loop-k.invariant c.new.ensures c.in_ok-push.ensures.items
