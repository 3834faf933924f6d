-- The order of games in a schedule.
use Rattle.std.specs.Prelude.{List, IsTrue}
use Rattle.std.specs.List.{AllPairs}
use Rattle.std.specs.Ordering.{is_le, nat_cmp, ordering_then}
use Rattle.std.specs.declared.cmp.Ordering.{Ordering}
use Rattle.league.specs.declared.game.Game.{Game}

-- games compare by slot, then by home team, and then by away team
abbrev pub game_cmp : Game → Game → Ordering
game_cmp g h =
    ordering_then (ordering_then (nat_cmp g.slot.0 h.slot.0) (nat_cmp g.home.0 h.home.0)) (nat_cmp g.away.0 h.away.0)

-- each game comes before all later ones, or is the same game
abbrev pub IsInOrder : List Game → Type 0
IsInOrder games = AllPairs (λ g h. IsTrue (is_le (game_cmp g h))) games
