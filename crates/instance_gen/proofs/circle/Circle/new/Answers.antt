use Rattle.std.proofs.Common.{subst, sym}
use Rattle.league.specs.Counts.{counts_of}
use Rattle.league.specs.Instance.{Instance}
use Rattle.league.specs.Structure.{IsRoundRobin}
use Rattle.instance_gen.proofs.circle.Circle.new.Goals as goal

pub of_schedule-requires-clause-round_robin : goal.of_schedule-requires-clause-round_robin
of_schedule-requires-clause-round_robin c =
    let P : Instance → Type 0 = λ l. IsRoundRobin l.n l.phased (counts_of c.in_ok-schedule.schedule) in
    subst P (sym c.new-league.ensures) c.in_ok-schedule.ensures.round_robin
