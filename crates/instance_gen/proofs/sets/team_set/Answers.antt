use Rattle.instance_gen.proofs.SetLemmas.{set_of-next}
use Rattle.instance_gen.proofs.sets.team_set.Goals as goal

pub loop-team-preserved : goal.loop-team-preserved
loop-team-preserved c =
    set_of-next c.args.teams.now c.loop-team.team-index c.loop-team.set _ c.loop-team-test.true c.loop-team.invariant
    c.in_ok-insert.ensures.ok
