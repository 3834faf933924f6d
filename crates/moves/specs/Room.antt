-- What an edit keeps of its two lists.
use Rattle.std.specs.Prelude.{◌≡◌, ℕ, ◌*◌, ◌≤◌, List, length}
use Rattle.league.specs.declared.game.Game.{Game}

-- room for 4n games in each of two lists, and as many games in the second as in the first
pub record HasRoom (n out_room into_room : ℕ) (out into : List Game) : Type 0 where
  pub out_fits : 4 * n ≤ out_room
  pub into_fits : 4 * n ≤ into_room
  pub as_many : length into ≡ length out
