use Rattle.std.proofs.Common.{ℕ, List, length, ap, sym, subst, arith}
use Rattle.encoding.specs.Ascending.{AreMeetings}
use Rattle.encoding.proofs.FewLemmas.{meetings_few}
use Rattle.encoding.proofs.MeetingOrder.{AreMeetings-from_test}
use Rattle.encoding.proofs.sets.meeting_numbers.Goals as goal

pub returns-clause-order : goal.returns-clause-order
returns-clause-order c =
    subst (λ (ps : List (ℕ × ℕ)). AreMeetings c.args.n ps) (sym c.numbers.ensures.numbers) (AreMeetings-from_test c.args.n c.args.meetings.now c.requires.meetings)

pub returns-clause-few : goal.returns-clause-few
returns-clause-few c =
    omega (arith, ap length c.numbers.ensures.numbers, meetings_few c.args.n c.args.meetings.now c.requires.n c.requires.meetings)
