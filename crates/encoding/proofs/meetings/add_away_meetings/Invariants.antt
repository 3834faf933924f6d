use Rattle.std.proofs.Common.{◌≡◌, ◌++◌, take}
use Rattle.league.specs.Capacity.{meetings_with}
use Rattle.league.specs.declared.class.Side.TheVariants.{A}
use Rattle.encoding.proofs.meetings.add_away_meetings.Given as goal

abbrev pub invariant-loop-other : goal.invariant-loop-other
invariant-loop-other l = l.meetings.items ≡ l.fn.meetings.items ++ meetings_with A l.team (take l.other-index l.teams)
