use Rattle.std.proofs.Common.{◌≡◌, ◌*◌, ◌<◌, ◌≤◌, length, get_or, take}
use Rattle.std.specs.List.{range_with_len, sum_by}
use Rattle.league.specs.Bounds.{difference, excess, largest}
use Rattle.league.specs.Counts.{slot_count}
use Rattle.league.specs.Fairness.{home_played}
use Rattle.league.specs.Venues.{home_games}
use Rattle.rule_core.specs.Table.{table_counts}
use Rattle.deviation.proofs.leads.largest_lead.Given as goal

abbrev pub invariant-loop-slot : goal.invariant-loop-slot
invariant-loop-slot l = record {
  passed : l.next ≤ slot_count l.cells.n;
  left : l.slot-index < length l.slots → l.next ≤ get_or l.slots l.slot-index 0;
  first : l.first_played ≡ sum_by (λ s. home_games l.cells.n (table_counts l.cells) l.first.0 s) (range_with_len 0 l.next);
  first_few : l.first_played ≤ 400000 * l.next;
  second : l.second_played ≡ sum_by (λ s. home_games l.cells.n (table_counts l.cells) l.second.0 s) (range_with_len 0 l.next);
  second_few : l.second_played ≤ 400000 * l.next;
  largest_so_far : l.most ≡ largest (λ s. excess (difference (home_played l.cells.n (table_counts l.cells) l.first.0 s) (home_played l.cells.n (table_counts l.cells) l.second.0 s)) l.intp) (take l.slot-index l.slots);
}
