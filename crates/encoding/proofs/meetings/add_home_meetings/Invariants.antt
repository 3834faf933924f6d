use Rattle.std.proofs.Common.{◌≡◌, ◌++◌, take}
use Rattle.league.specs.Capacity.{meetings_with}
use Rattle.league.specs.declared.class.Side.TheVariants.{H}
use Rattle.encoding.proofs.meetings.add_home_meetings.Given as goal

abbrev pub invariant-loop-other : goal.invariant-loop-other
invariant-loop-other l = l.meetings.items ≡ l.fn.meetings.items ++ meetings_with H l.team (take l.other-index l.teams)
