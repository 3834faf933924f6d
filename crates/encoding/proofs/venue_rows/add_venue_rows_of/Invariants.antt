use Rattle.std.proofs.Common.{◌≡◌, ◌+◌, ◌*◌, ◌≤◌, ◌++◌, [], ◌∷◌, length, take}
use Rattle.std.specs.List.{flat_map}
use Rattle.encoding.specs.Season.{game_needs_home, home_needs_game}
use Rattle.encoding.proofs.venue_rows.add_venue_rows_of.Given as goal

abbrev pub invariant-loop-slot : goal.invariant-loop-slot
invariant-loop-slot l = record {
  so_far : l.draft.rows ≡ l.fn.draft.rows ++ flat_map
      (λ s. home_needs_game l.season l.team s ∷ game_needs_home l.season l.team s ∷ []) (take l.slot-index l.slots);
  few : length l.draft.rows ≤ length l.fn.draft.rows + 2 * l.slot-index;
}
