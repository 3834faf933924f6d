use Rattle.std.proofs.Common.{◌≡◌, map, take}
use Rattle.bound_rows.specs.OneOf.{of_team}
use Rattle.bound_rows.proofs.parts.team_parts.Given as goal

abbrev pub invariant-loop-team : goal.invariant-loop-team
invariant-loop-team l = l.made.items ≡ map (λ i. of_team l.class i) (take l.team-index l.teams)
