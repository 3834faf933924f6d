use Rattle.std.proofs.Common.{◌≡◌}
use Rattle.std.specs.List.{flat_map, range_with_len}
use Rattle.rows.specs.Values.{assigned}
use Rattle.decoding.specs.TrueGames.{true_games_in}
use Rattle.decoding.proofs.decoder.decode_games.Given as goal

abbrev pub invariant-loop-slot : goal.invariant-loop-slot
invariant-loop-slot l = l.schedule ≡ flat_map (true_games_in l.n (assigned l.assignment))
    (range_with_len 0 l.slot)
