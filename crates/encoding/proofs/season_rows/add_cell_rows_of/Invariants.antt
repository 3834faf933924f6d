use Rattle.std.proofs.Common.{◌≡◌, ◌+◌, ◌*◌, ◌≤◌, ◌++◌, length, take}
use Rattle.std.specs.List.{flat_map}
use Rattle.encoding.specs.Season.{cell_rows_at}
use Rattle.encoding.proofs.season_rows.add_cell_rows_of.Given as goal

abbrev pub invariant-loop-slot : goal.invariant-loop-slot
invariant-loop-slot l = record {
  so_far : l.draft.rows ≡ l.fn.draft.rows ++ flat_map (cell_rows_at l.season l.team) (take l.slot-index l.slots);
  few : length l.draft.rows ≤ length l.fn.draft.rows + 2 * l.slot-index;
}
