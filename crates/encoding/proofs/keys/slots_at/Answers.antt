use Rattle.std.proofs.Common.{arith}
use Rattle.encoding.proofs.NumberLemmas.{run_ascends}
use Rattle.encoding.proofs.keys.slots_at.Goals as goal

pub returns-in-Every-clause-order : goal.returns-in-Every-clause-order
returns-in-Every-clause-order c =
    run_ascends c.args.n c.args.place 1 c.consecutive.result.now c.consecutive.ensures.numbers
    (omega (arith, c.requires.place))
