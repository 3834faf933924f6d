use Rattle.std.proofs.Common.{◌<◌, ◌≤◌, length}
use Rattle.command_rows.proofs.PriceLemmas.{rows_before}
use Rattle.command_rows.proofs.prices.costs.Given as goal

-- the objective row stands here or before this place
abbrev pub invariant-back : goal.invariant-back
invariant-back l = record {
  from : length (rows_before l.system.league) ≤ l.place;
  within : l.place < length l.rows;
}

abbrev pub decreases-back : goal.decreases-back
decreases-back l = l.place
