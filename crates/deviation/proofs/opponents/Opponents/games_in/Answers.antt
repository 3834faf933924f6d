use Rattle.std.proofs.Common.{arith, get_or}
use Rattle.league.specs.Capacity.{meetings_with}
use Rattle.rule_core.specs.Table.{table_counts}
use Rattle.deviation.proofs.OpponentSums.{games_of_slots}
use Rattle.deviation.proofs.opponents.Opponents.games_in.Goals as goal

pub returns : goal.returns
returns c =
    games_of_slots (table_counts c.args.cells.now) (meetings_with c.args.self.now.side (get_or c.args.self.now.teams1 c.args.key 0) c.args.self.now.teams2) c.args.slots.now c.loop-slot.slot-index c.loop-slot.games (omega arith) c.loop-slot.invariant.counted
