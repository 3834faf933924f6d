use Rattle.std.proofs.Common.{sym, zero-add}
use Rattle.league.proofs.NumberSets.{range-next}
use Rattle.instance_gen.proofs.sets.all_teams.Goals as goal

pub loop-team-preserved : goal.loop-team-preserved
loop-team-preserved c =
    range-next 0 c.loop-team.team c.loop-team.team c.loop-team.set _ (sym (zero-add c.loop-team.team))
    c.loop-team.invariant c.in_ok-insert.ensures.ok
