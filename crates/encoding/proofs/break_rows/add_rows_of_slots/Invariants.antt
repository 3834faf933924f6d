use Rattle.std.proofs.Common.{◌≡◌, ◌+◌, ◌*◌, ◌≤◌, ◌++◌, length, take}
use Rattle.std.specs.List.{flat_map}
use Rattle.encoding.specs.Lists.{after_first}
use Rattle.encoding.specs.Season.{break_rows_at}
use Rattle.encoding.proofs.break_rows.add_rows_of_slots.Given as goal

abbrev pub invariant-loop-slot : goal.invariant-loop-slot
invariant-loop-slot l = record {
  so_far : l.draft.rows ≡ l.fn.draft.rows ++ flat_map (break_rows_at l.season l.team)
      (after_first (take l.slot-index l.slots));
  few : length l.draft.rows ≤ length l.fn.draft.rows + 6 * l.slot-index;
}
