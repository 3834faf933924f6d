use Rattle.std.proofs.Common.{◌≡◌, ◌+◌, ◌*◌, ◌≤◌, ◌++◌, [], ◌∷◌, length, take}
use Rattle.std.specs.List.{flat_map}
use Rattle.league.specs.Counts.{slots_of}
use Rattle.rows.specs.Cardinality.{exactly}
use Rattle.encoding.specs.Lists.{games_in}
use Rattle.encoding.proofs.season_rows.add_meeting_rows.Given as goal

abbrev pub invariant-loop-meeting : goal.invariant-loop-meeting
invariant-loop-meeting l = record {
  so_far : l.draft.rows ≡ l.fn.draft.rows ++ flat_map
      (λ p. exactly 1 (games_in l.season (p ∷ []) (slots_of l.season))) (take l.meeting-index l.meetings);
  few : length l.draft.rows ≤ length l.fn.draft.rows + 2 * l.meeting-index;
}
