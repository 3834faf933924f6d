use Rattle.std.proofs.Common.{refl}
use Rattle.clause_search.proofs.walk.take_turn.Goals as goal

pub returns-in-None-clause-turn : goal.returns-in-None-clause-turn
returns-in-None-clause-turn c =
    c.go_on.ensures.turn _ c.args.limit (record { log = refl; keeps = refl; room = refl })
