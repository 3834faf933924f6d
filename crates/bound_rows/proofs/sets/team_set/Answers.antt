use Rattle.bound_rows.proofs.SetLemmas.{set-next}
use Rattle.bound_rows.proofs.sets.team_set.Goals as goal

pub loop-team-preserved : goal.loop-team-preserved
loop-team-preserved c =
    set-next c.args.teams.now c.loop-team.team-index c.loop-team.set _ c.requires c.loop-team-test.true
    c.loop-team.invariant c.in_ok-insert.ensures.ok
