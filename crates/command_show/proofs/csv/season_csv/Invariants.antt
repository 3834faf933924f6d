use Rattle.std.proofs.Common.{◌≡◌, ◌++◌, drop}
use Rattle.std.specs.List.{flat_map}
use Rattle.command_show.specs.Csv.{csv_text, game_line}
use Rattle.command_show.proofs.csv.season_csv.Given as goal

-- the text so far, and then the lines of the games that are left, is the whole
abbrev pub invariant-loop-game : goal.invariant-loop-game
invariant-loop-game l = l.text.items ++ flat_map (game_line l.names) (drop l.game-index l.games) ≡ csv_text l.names l.games
