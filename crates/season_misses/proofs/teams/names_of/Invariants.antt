use Rattle.std.proofs.Common.{◌≡◌, map, take}
use Rattle.season_misses.specs.Phrases as phrases
use Rattle.season_misses.proofs.teams.names_of.Given as goal

-- the names of the teams so far
abbrev pub invariant-loop-team : goal.invariant-loop-team
invariant-loop-team l = l.found.items ≡ map (phrases.name_of l.names) (take l.team-index l.teams)
