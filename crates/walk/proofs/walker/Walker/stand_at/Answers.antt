use Rattle.std.proofs.Common.{sym}
use Rattle.league.specs.Counts.{counts_of}
use Rattle.walk.proofs.WalkLemmas.{round_robin-at}
use Rattle.walk.proofs.walker.Walker.stand_at.Goals as goal

pub new-requires-clause-round_robin : goal.new-requires-clause-round_robin
new-requires-clause-round_robin c =
    round_robin-at c.n.result c.args.league.now.n c.phased.result c.args.league.now.phased
    (counts_of c.args.start.now) (sym c.n.ensures.n) (sym c.phased.ensures) c.requires.round_robin
