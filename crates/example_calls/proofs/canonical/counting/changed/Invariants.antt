use Rattle.std.specs.List.{All}
use Rattle.league.specs.Instance.{IsGame}
use Rattle.example_calls.proofs.canonical.counting.changed.Given as goal

-- the games so far are of the league
abbrev pub invariant-loop-game : goal.invariant-loop-game
invariant-loop-game l = All (IsGame l.n) l.games

abbrev pub invariant-loop-put : goal.invariant-loop-put
invariant-loop-put l = All (IsGame l.n) l.games
