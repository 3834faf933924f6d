use Rattle.deviation.proofs.Ga1Terms.{meetings_ascend}
use Rattle.deviation.proofs.ga1.Ga1.games.Goals as goal

pub games_by_slot-requires-clause-ascending : goal.games_by_slot-requires-clause-ascending
games_by_slot-requires-clause-ascending c = meetings_ascend c.args.self.now
