-- The text of a season that a league accepts.
use Rattle.std.specs.Prelude.{◌≡◌, ℕ, List, Some}
use Rattle.league.specs.Accepted.{IsAccepted, objective}
use Rattle.league.specs.Counts.{counts_of}
use Rattle.league.specs.Instance.{Instance}
use Rattle.league.specs.Order.{IsInOrder}
use Rattle.league.specs.declared.game.Game.{Game}
use Rattle.robinx.specs.Texts.{solution_text}

-- a text is that of a season that some league accepts, in order, with an infeasibility of 0 and what it costs
pub record IsSeasonText (text : List ℕ) : Type 0 where
  pub league : Instance
  pub games : List Game
  pub accepted : IsAccepted league (counts_of games)
  pub in_order : IsInOrder games
  pub is : text ≡ solution_text games (Some (0, objective league (counts_of games)))
