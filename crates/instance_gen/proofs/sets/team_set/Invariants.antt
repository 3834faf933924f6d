use Rattle.std.proofs.Common.{◌≡◌, take}
use Rattle.instance_gen.specs.Draws.{set_of}
use Rattle.instance_gen.proofs.sets.team_set.Given as goal

abbrev pub invariant-loop-team : goal.invariant-loop-team
invariant-loop-team l = l.set ≡ set_of (take l.team-index l.teams)
