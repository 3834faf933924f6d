use Rattle.std.proofs.Common.{◌≡◌, ◌++◌, drop, string_bytes}
use Rattle.std.specs.List.{flat_map}
use Rattle.season_misses.specs.Games.{next_game}
use Rattle.season_misses.proofs.game_words.push_others.Given as goal

-- the text so far, and then what is left, is the whole
abbrev pub invariant-loop-game : goal.invariant-loop-game
invariant-loop-game l = string_bytes l.text ++ flat_map (next_game l.names) (drop l.game-index l.others) ≡ string_bytes l.fn.text ++ flat_map (next_game l.names) l.others
