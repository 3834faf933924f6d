use Rattle.std.proofs.Common.{◌≡◌, take}
use Rattle.season_misses.specs.Lines.{breaks_by_team}
use Rattle.season_misses.proofs.break_lines.breaks_by_team.Given as goal

-- the lines of the teams so far
abbrev pub invariant-loop-team : goal.invariant-loop-team
invariant-loop-team l = l.found.items ≡ breaks_by_team l.names l.breaks (take l.team-index l.teams)
