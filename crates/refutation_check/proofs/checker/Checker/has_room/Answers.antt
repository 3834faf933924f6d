use Rattle.std.proofs.Common.{arith}
use Rattle.refutation_check.proofs.checker.Checker.has_room.Goals as goal

pub returns : goal.returns
returns c = c.has_room_beside.ensures c.args.self.now (omega arith)
