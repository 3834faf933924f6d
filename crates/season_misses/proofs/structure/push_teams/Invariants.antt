use Rattle.std.proofs.Common.{◌≡◌, ◌++◌}
use Rattle.std.specs.List.{range_with_len}
use Rattle.season_misses.specs.Lacks.{lacks_at}
use Rattle.season_misses.proofs.structure.push_teams.Given as goal

-- the lines of the teams so far
abbrev pub invariant-loop-i : goal.invariant-loop-i
invariant-loop-i l =
    l.lines.items
    ≡ l.fn.lines.items ++ lacks_at l.lack l.season.n l.season.names.now l.season.games.now (range_with_len 0 l.i) (range_with_len 0 l.seconds)
