use Rattle.std.proofs.Common.{◌≡◌, ◌++◌}
use Rattle.std.specs.List.{flat_map, range_with_len}
use Rattle.rows.specs.Values.{assigned}
use Rattle.encoding.specs.Shadow.{game_of}
use Rattle.decoding.specs.TrueGames.{true_game}
use Rattle.decoding.proofs.decoder.add_home_games.Given as goal

abbrev pub invariant-loop-away : goal.invariant-loop-away
invariant-loop-away l =
    l.schedule ≡ l.fn.schedule ++ flat_map (λ j. true_game l.n (assigned l.assignment)
    (game_of (l.home, j) l.slot)) (range_with_len 0 l.away)
