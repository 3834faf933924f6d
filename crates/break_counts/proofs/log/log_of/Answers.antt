use Rattle.std.proofs.Common.{arith}
use Rattle.break_counts.proofs.log.log_of.Goals as goal

pub teams_together-together-requires : goal.teams_together-together-requires
teams_together-together-requires c k d within =
    omega (arith, (c.requires.season k d within).1, c.n-n.ensures.instance.teams.at_most)
