use Rattle.std.proofs.Common.{◌≡◌, ◌++◌, take}
use Rattle.std.specs.List.{flat_map}
use Rattle.league.specs.declared.class.Side.TheVariants.{Both}
use Rattle.season_misses.specs.Reasons.{breaks_of}
use Rattle.season_misses.proofs.breaks.push_all_breaks.Given as goal

-- the breaks of the teams so far
abbrev pub invariant-loop-team : goal.invariant-loop-team
invariant-loop-team l = l.found.items ≡ l.fn.found.items ++ flat_map (breaks_of l.season.cells.now.n l.season.games.now Both l.slots) (take l.team-index l.teams)
