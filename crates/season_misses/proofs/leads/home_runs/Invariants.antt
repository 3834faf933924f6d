use Rattle.std.proofs.Common.{◌≡◌, ◌≤◌, ◌*◌, map}
use Rattle.std.specs.List.{range_with_len, sum_by}
use Rattle.league.specs.Fairness.{home_played}
use Rattle.league.specs.Venues.{home_games}
use Rattle.rule_core.specs.Table.{table_counts}
use Rattle.season_misses.proofs.leads.home_runs.Given as goal

-- the home games in the slots so far, and after each of them
abbrev pub invariant-loop-slot : goal.invariant-loop-slot
invariant-loop-slot l = record {
  list : l.played.items ≡ map (home_played l.cells.n (table_counts l.cells) l.team.0) (range_with_len 0 l.slot);
  summed : l.games ≡ sum_by (λ s. home_games l.cells.n (table_counts l.cells) l.team.0 s) (range_with_len 0 l.slot);
  bounded : l.games ≤ 400000 * l.slot;
}
