use Rattle.std.specs.List.{All}
use Rattle.league.specs.Instance.{IsGame}
use Rattle.walk.proofs.afresh.mirrored.Given as goal

-- the games so far are of the league
abbrev pub invariant-loop-slot : goal.invariant-loop-slot
invariant-loop-slot l = All (IsGame l.n) l.schedule
