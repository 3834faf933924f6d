use Rattle.std.proofs.Common.{arith}
use Rattle.venue_counts.proofs.GroupLemmas.{noted-more}
use Rattle.venue_counts.proofs.group.note_all.Goals as goal

pub loop-team-preserved : goal.loop-team-preserved
loop-team-preserved c =
    let within = c.requires.causes c.loop-team.team-index 0 c.loop-team-test.true in
    noted-more c.args.teams.now c.args.needs.now c.args.causes.now c.loop-team.causes c.loop-team.team-index c.args.need
    c.args.cause c.from-place.result c.later_cause.result c.loop-team-test.true c.from-place.ensures
    (omega (arith, within, c.from-place.ensures, c.loop-team.auto.causes)) c.later_cause.ensures c.loop-team.invariant
