use Rattle.std.proofs.Common.{◌≡◌, ◌++◌, drop}
use Rattle.season_misses.specs.Misses.{misses_from}
use Rattle.season_misses.proofs.miss.misses_of.Given as goal

-- those so far, and then those that are left, are all
abbrev pub invariant-loop-place : goal.invariant-loop-place
invariant-loop-place l =
    l.found.items ++ misses_from l.place (drop l.place l.constraints) (drop l.place l.vectors)
    ≡ misses_from 0 l.constraints l.vectors
