use Rattle.std.proofs.Common.{take}
use Rattle.venue_counts.specs.Groups.{AreNoted}
use Rattle.venue_counts.proofs.group.note_all.Given as goal

abbrev pub invariant-loop-team : goal.invariant-loop-team
invariant-loop-team l = AreNoted (take l.team-index l.teams) l.needs l.need l.cause l.initial.causes l.causes
