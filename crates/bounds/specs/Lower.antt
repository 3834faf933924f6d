-- Games that a league accepts and that cost less than a number.
use Rattle.std.specs.Prelude.{ℕ, ◌<◌, ◌≤◌, List, length}
use Rattle.std.specs.List.{All}
use Rattle.league.specs.Accepted.{IsAccepted, objective}
use Rattle.league.specs.Counts.{counts_of}
use Rattle.league.specs.Instance.{Instance, IsGame}
use Rattle.league.specs.Order.{IsInOrder}
use Rattle.league.specs.declared.game.Game.{Game}

pub record IsLower (league : Instance) (bound : ℕ) (games : List Game) : Type 0 where
  pub accepted : IsAccepted league (counts_of games)
  pub fit : All (IsGame league.n) games
  pub few : length games ≤ 10000
  pub in_order : IsInOrder games
  pub lower : objective league (counts_of games) < bound
