use Rattle.std.proofs.Common.{◌≡◌, ◌+◌, ◌≤◌, ◌++◌, length, map, take}
use Rattle.rule_core.specs.Table.{table_counts}
use Rattle.resume.specs.Kept.{kept_row}
use Rattle.resume.proofs.kept.add_slot.Given as goal

abbrev pub invariant-loop-meeting : goal.invariant-loop-meeting
invariant-loop-meeting l = record {
  so_far : l.rows ≡ l.fn.rows ++ map (kept_row l.cells.n (table_counts l.cells) l.slot)
      (take l.meeting-index l.meetings);
  few : length l.rows ≤ length l.fn.rows + l.meeting-index;
}
