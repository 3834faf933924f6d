use Rattle.std.proofs.Common.{take}
use Rattle.venue_counts.specs.Groups.{AreRaised}
use Rattle.venue_counts.proofs.group.raise_all.Given as goal

abbrev pub invariant-loop-team : goal.invariant-loop-team
invariant-loop-team l = AreRaised (take l.team-index l.teams) l.initial.needs l.need l.needs
