use Rattle.std.proofs.Common.{◌≡◌, ◌+◌, ◌*◌, ◌≤◌, ◌++◌, [], ◌∷◌, length, take}
use Rattle.std.specs.List.{flat_map}
use Rattle.league.specs.Counts.{slots_of}
use Rattle.encoding.specs.Season.{game_needs_home, home_needs_game}
use Rattle.encoding.proofs.venue_rows.add_venue_rows.Given as goal

abbrev pub invariant-loop-team : goal.invariant-loop-team
invariant-loop-team l = record {
  so_far : l.draft.rows ≡ l.fn.draft.rows ++ flat_map
      (λ i. flat_map (λ s. home_needs_game l.season i s ∷ game_needs_home l.season i s ∷ []) (slots_of l.season))
      (take l.team-index l.teams);
  few : length l.draft.rows ≤ length l.fn.draft.rows + 156 * l.team-index;
}
