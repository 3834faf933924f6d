-- A list of moves with room for more.
use Rattle.std.specs.Prelude.{ℕ, List}
use Rattle.moves.specs.declared.swap.Swap.{Swap}

-- the moves, and for how many more there is room
pub record Moves : Type 0 where
  pub list : List Swap
  pub spare : ℕ
