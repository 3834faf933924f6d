use Rattle.std.proofs.Common.{◌≡◌, ◌++◌, length}
use Rattle.league.specs.Meetings.{pairs_of}
use Rattle.encoding.proofs.meetings.pairs_of.Given as goal

abbrev pub invariant-loop-first : goal.invariant-loop-first
invariant-loop-first l = l.pairs.items ++ pairs_of l.left ≡ pairs_of l.teams

abbrev pub decreases-loop-first : goal.decreases-loop-first
decreases-loop-first l = length l.left
