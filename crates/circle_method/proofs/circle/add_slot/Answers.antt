use Rattle.std.proofs.Common.{arith}
use Rattle.circle_method.proofs.GameLemmas.{slot_games-more}
use Rattle.circle_method.proofs.circle.add_slot.Goals as goal

-- src/circle.rt:40:5
pub loop-k-preserved : goal.loop-k-preserved
loop-k-preserved c = slot_games-more c.args.n c.args.slot c.loop-k.k c.args.schedule.now c.loop-k.schedule _ c.circle_pair.result (omega arith) c.loop-k.invariant c.circle_pair.ensures c.in_ok-push-2.ensures.ok
