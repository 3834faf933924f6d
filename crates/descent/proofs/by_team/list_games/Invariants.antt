use Rattle.std.proofs.Common.{◌+◌, ◌≤◌, ◌++◌, ℕ, List, length, take}
use Rattle.std.specs.List.{All}
use Rattle.league.specs.declared.game.Game.{Game}
use Rattle.descent.specs.ByTeam.{AreByTeam}
use Rattle.descent.proofs.by_team.list_games.Given as goal

abbrev pub invariant-loop-game : goal.invariant-loop-game
invariant-loop-game l = record {
  within : l.game-index ≤ length l.games;
  listed : (before : List Game) → AreByTeam (length l.initial.lists) before l.initial.lists
      → AreByTeam (length l.initial.lists) (before ++ take l.game-index l.games) l.lists;
  room : (room : ℕ) → All (λ r. room ≤ r.room) l.initial.lists → All (λ r. room ≤ r.room) l.lists;
  spare : (rest : ℕ) → All (λ r. length r.list + (length l.games + rest) ≤ r.room) l.initial.lists
      → All (λ r. length r.list + (length l.games + rest) ≤ r.room + l.game-index) l.lists;
}
