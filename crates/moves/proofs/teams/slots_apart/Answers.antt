use Rattle.std.proofs.Common.{arith}
use Rattle.moves.specs.Round.{round_counts}
use Rattle.moves.proofs.TradeLemmas.{unmarked_two}
use Rattle.moves.proofs.teams.slots_apart.Goals as goal

pub returns : goal.returns
returns c = λ r lt.
    unmarked_two (round_counts c.args.board.now) c.args.i.0 c.args.j.0 c.slot_of-home.result.0 c.slot_of-away.result.0 78 r
    (omega (arith, c.slot_of-home.ensures.below, c.n-most.ensures.teams.at_most)) (omega (arith, c.slot_of-away.ensures.below, c.n-most.ensures.teams.at_most)) (omega (arith, lt, c.n-most.ensures.teams.at_most))
    c.slot_of-home.ensures.at c.slot_of-away.ensures.at
