-- What a descent gives.
use Rattle.std.specs.Prelude.{Bool, List}
use Rattle.league.specs.declared.game.Game.{Game}
use Rattle.moves.specs.declared.swap.Swap.{Swap}

-- the games at the start, the moves from there on, and whether the games at the end are settled
pub record Descended : Type 0 where
  pub first : List Game
  pub trail : List Swap
  pub settled : Bool
