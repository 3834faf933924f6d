use Rattle.std.specs.Prelude.{◌≡◌, take}
use Rattle.robin_host.proofs.season.listed.Given as goal

-- the games so far
abbrev pub invariant-loop-game : goal.invariant-loop-game
invariant-loop-game l = l.schedule ≡ take l.game-index l.games
