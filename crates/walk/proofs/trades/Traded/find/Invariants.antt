use Rattle.std.specs.Prelude.{◌<◌}
use Rattle.league.specs.Counts.{slot_count}
use Rattle.walk.proofs.trades.Traded.find.Given as goal

-- the cycle stays in the season
abbrev pub invariant-cycle : goal.invariant-cycle
invariant-cycle l = l.slot.0 < slot_count l.board.n
