use Rattle.std.proofs.Common.{◌≡◌, ◌+◌, ◌*◌, ◌≤◌, ◌++◌, length, take}
use Rattle.std.specs.List.{flat_map}
use Rattle.encoding.specs.Keys.{key_of, rows_of_key}
use Rattle.encoding.proofs.draft.Draft.add_subject.Given as goal

abbrev pub invariant-loop-place : goal.invariant-loop-place
invariant-loop-place l = record {
  rows : l.self.rows ≡ l.fn.self.rows
      ++ flat_map (λ place. rows_of_key (key_of l.n l.class l.subject place)) (take l.place-index l.places);
  room : length l.self.rows ≤ length l.fn.self.rows + 2 * l.place-index;
}
