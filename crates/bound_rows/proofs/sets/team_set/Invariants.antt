use Rattle.std.proofs.Common.{◌≡◌, take}
use Rattle.bound_rows.proofs.sets.team_set.Given as goal

abbrev pub invariant-loop-team : goal.invariant-loop-team
invariant-loop-team l = l.set ≡ take l.team-index l.teams
