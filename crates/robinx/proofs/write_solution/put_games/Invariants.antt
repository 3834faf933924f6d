use Rattle.std.proofs.Common.{◌≡◌, ◌++◌, drop}
use Rattle.std.specs.List.{flat_map}
use Rattle.robinx.specs.Texts.{game_line}
use Rattle.robinx.proofs.write_solution.put_games.Given as goal

-- the text so far, and then the lines that are left, is the whole
abbrev pub invariant-loop-game : goal.invariant-loop-game
invariant-loop-game l = l.text.items ++ flat_map game_line (drop l.game-index l.games) ≡ l.fn.text.items ++ flat_map game_line l.games
