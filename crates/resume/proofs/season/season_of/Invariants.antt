use Rattle.std.proofs.Common.{◌≡◌}
use Rattle.std.specs.List.{flat_map, range_with_len}
use Rattle.league.specs.Meetings.{meetings_of}
use Rattle.rows.specs.Values.{assigned}
use Rattle.resume.specs.Found.{game_if_true}
use Rattle.resume.proofs.season.season_of.Given as goal

abbrev pub invariant-loop-slot : goal.invariant-loop-slot
invariant-loop-slot l =
    l.season ≡ flat_map (λ s. flat_map (game_if_true l.n (assigned l.values) s) (meetings_of l.n))
    (range_with_len 0 l.slot)
