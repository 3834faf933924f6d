use Rattle.std.proofs.Common.{◌≡◌, ◌+◌, ◌*◌, ◌≤◌, ◌++◌, [], ◌∷◌, length, take}
use Rattle.std.specs.List.{flat_map}
use Rattle.league.specs.Structure.{first_half}
use Rattle.rows.specs.Cardinality.{exactly}
use Rattle.encoding.specs.Lists.{games_in}
use Rattle.encoding.proofs.season_rows.add_half_rows_of.Given as goal

abbrev pub invariant-loop-pair : goal.invariant-loop-pair
invariant-loop-pair l = record {
  so_far : l.draft.rows ≡ l.fn.draft.rows ++ flat_map
      (λ p. exactly 1 (games_in l.season (p ∷ (p.1, p.0) ∷ []) (first_half l.season))) (take l.pair-index l.pairs);
  few : length l.draft.rows ≤ length l.fn.draft.rows + 2 * l.pair-index;
}
