use Rattle.std.proofs.Common.{◌≡◌, ◌++◌}
use Rattle.std.specs.List.{flat_map, range_with_len}
use Rattle.season_misses.specs.Lacks.{lack_at}
use Rattle.season_misses.proofs.structure.push_team.Given as goal

-- the lines so far
abbrev pub invariant-loop-j : goal.invariant-loop-j
invariant-loop-j l =
    l.lines.items
    ≡ l.fn.lines.items ++ flat_map (lack_at l.lack l.season.n l.season.names.now l.season.games.now l.i) (range_with_len 0 l.j)
