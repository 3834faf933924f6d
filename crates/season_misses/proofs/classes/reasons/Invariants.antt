use Rattle.std.proofs.Common.{◌≡◌}
use Rattle.std.specs.List.{flat_map, range_with_len}
use Rattle.season_misses.specs.Reasons.{reasons_at}
use Rattle.season_misses.proofs.classes.reasons.Given as goal

-- the reasons at the keys so far
abbrev pub invariant-loop-key : goal.invariant-loop-key
invariant-loop-key l = l.reasons.items ≡ flat_map (reasons_at l.season.cells.now.n l.season.games.now l.class) (range_with_len 0 l.key)
