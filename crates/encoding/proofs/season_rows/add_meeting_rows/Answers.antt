use Rattle.encoding.proofs.MeetingOrder.{AreMeetings-one}
use Rattle.encoding.proofs.season_rows.add_meeting_rows.Goals as goal

pub push_one_game-requires-clause-meetings : goal.push_one_game-requires-clause-meetings
push_one_game-requires-clause-meetings c =
    AreMeetings-one c.args.season.now _
    (c.meetings-meetings.ensures.are.fit c.loop-meeting.meeting-index (0, 0) c.loop-meeting-test.true)
