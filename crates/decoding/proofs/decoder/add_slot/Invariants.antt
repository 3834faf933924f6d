use Rattle.std.proofs.Common.{◌≡◌, ◌++◌}
use Rattle.std.specs.List.{flat_map, range_with_len}
use Rattle.rows.specs.Values.{assigned}
use Rattle.decoding.specs.TrueGames.{true_home_games}
use Rattle.decoding.proofs.decoder.add_slot.Given as goal

abbrev pub invariant-loop-home : goal.invariant-loop-home
invariant-loop-home l =
    l.schedule ≡ l.fn.schedule ++ flat_map (true_home_games l.n (assigned l.assignment) l.slot)
    (range_with_len 0 l.home)
