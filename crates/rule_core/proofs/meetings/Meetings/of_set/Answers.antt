use Rattle.std.proofs.Common.{ap, arith, length}
use Rattle.rule_core.proofs.KeptMeetingLemmas.{are_meetings-few}
use Rattle.rule_core.proofs.meetings.Meetings.of_set.Goals as goal

pub of-requires-clause-few : goal.of-requires-clause-few
of-requires-clause-few c = omega (arith, ap length c.numbers.ensures.numbers, are_meetings-few c.args.n c.args.meetings.now c.requires.at_most c.requires.meetings)
