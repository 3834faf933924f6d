use Rattle.std.specs.List.{All}
use Rattle.league.specs.Instance.{IsGame}
use Rattle.walk.proofs.afresh.add_slot.Given as goal

-- the games so far are of the league
abbrev pub invariant-loop-team : goal.invariant-loop-team
invariant-loop-team l = All (IsGame l.n) l.schedule
