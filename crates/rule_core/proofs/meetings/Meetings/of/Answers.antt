use Rattle.std.proofs.Common.{arith}
use Rattle.rule_core.proofs.KeptMeetingLemmas.{IsTableOf-more, meetings-teams, place_in}
use Rattle.rule_core.proofs.meetings.Meetings.of.Goals as goal

pub index_mut-requires : goal.index_mut-requires
index_mut-requires c =
    let teams = meetings-teams c.args.n c.args.meetings.now c.requires.teams c.loop-home.home-index (0, 0) c.loop-home-test.true in
    omega (arith, c.loop-home.listed.ok, place_in c.args.n _ _ c.row_of.result c.loop-home.listed.items c.loop-home.invariant.size teams.0 teams.1 c.row_of.ensures)

pub loop-home-preserved : goal.loop-home-preserved
loop-home-preserved c =
    let teams = meetings-teams c.args.n c.args.meetings.now c.requires.teams c.loop-home.home-index (0, 0) c.loop-home-test.true in
    IsTableOf-more c.args.n c.args.meetings.now c.loop-home.listed.items c.loop-home.home-index c.row_of.result c.loop-home-test.true teams.0 teams.1 c.row_of.ensures c.loop-home.invariant
