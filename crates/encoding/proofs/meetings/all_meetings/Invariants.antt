use Rattle.std.proofs.Common.{◌≡◌, take}
use Rattle.std.specs.List.{flat_map}
use Rattle.league.specs.Capacity.{meetings_with}
use Rattle.league.specs.declared.class.Side.TheVariants.{H}
use Rattle.encoding.proofs.meetings.all_meetings.Given as goal

abbrev pub invariant-loop-team : goal.invariant-loop-team
invariant-loop-team l = l.meetings.items ≡ flat_map (λ i. meetings_with H i l.teams) (take l.team-index l.teams)
