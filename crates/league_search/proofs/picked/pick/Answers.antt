use Rattle.std.proofs.Common.{arith}
use Rattle.league_search.proofs.PickLemmas.{picked_all, picked_none}
use Rattle.league_search.proofs.picked.pick.Goals as goal

pub loop-k-init : goal.loop-k-init
loop-k-init c = picked_none c.args.games c.args.rows.now _ _ c.new.ensures c.new-2.ensures.items

pub returns : goal.returns
returns c = picked_all c.args.games c.args.rows.now _ _ c.loop-k.k c.loop-k.invariant (omega arith) (omega arith)
