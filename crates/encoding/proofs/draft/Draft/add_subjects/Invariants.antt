use Rattle.std.proofs.Common.{◌≡◌, ◌+◌, ◌*◌, ◌≤◌, ◌++◌, length, take}
use Rattle.std.specs.List.{flat_map}
use Rattle.encoding.specs.Keys.{rows_of_subject, subjects_of}
use Rattle.encoding.proofs.draft.Draft.add_subjects.Given as goal

abbrev pub invariant-loop-place : goal.invariant-loop-place
invariant-loop-place l = record {
  rows : l.self.rows
      ≡ l.fn.self.rows ++ flat_map (rows_of_subject l.n l.class) (take l.place (subjects_of l.class));
  room : length l.self.rows ≤ length l.fn.self.rows + 156 * l.place;
}
