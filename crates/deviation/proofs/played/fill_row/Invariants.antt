use Rattle.std.proofs.Common.{◌≡◌, ◌≢◌, ℕ, ◌*◌, ◌<◌, ◌≤◌, length, get_or}
use Rattle.std.specs.List.{range_with_len, sum_by}
use Rattle.league.specs.Counts.{slot_count}
use Rattle.league.specs.Grid.{entry}
use Rattle.league.specs.Venues.{home_games}
use Rattle.rule_core.specs.Table.{table_counts}
use Rattle.deviation.proofs.PlayedLemmas.{IsPlayedTo}
use Rattle.deviation.proofs.played.fill_row.Given as goal

abbrev pub invariant-loop-place : goal.invariant-loop-place
invariant-loop-place l = record {
  passed : l.next ≤ slot_count l.cells.n;
  left : l.place < length l.slots → l.next ≤ get_or l.slots l.place 0;
  counted : l.games ≡ sum_by (λ s. home_games l.cells.n (table_counts l.cells) l.team.0 s) (range_with_len 0 l.next);
  few : l.games ≤ 400000 * l.next;
  size : length l.played ≡ 3120;
  row : IsPlayedTo l.cells.n (table_counts l.cells) l.slots l.played l.team.0 l.place;
  others : (i q : ℕ) → i ≢ l.team.0 → entry l.played i q ≡ entry l.initial.played i q;
}
