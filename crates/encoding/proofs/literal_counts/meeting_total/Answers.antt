use Rattle.std.proofs.Common.{arith}
use Rattle.encoding.proofs.NumberLemmas.{meetings_few}
use Rattle.encoding.proofs.literal_counts.meeting_total.Goals as goal

pub returns-clause-few : goal.returns-clause-few
returns-clause-few c = omega (arith, meetings_few c.args.n c.args.meetings.now c.requires.n c.requires.meetings)
