use Rattle.std.proofs.Common.{take}
use Rattle.rule_core.specs.KeptMeetings.{IsTableOf}
use Rattle.rule_core.proofs.meetings.Meetings.of.Given as goal

abbrev pub invariant-loop-home : goal.invariant-loop-home
invariant-loop-home l = IsTableOf l.n (take l.home-index l.meetings) l.listed.items
