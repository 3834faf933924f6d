use Rattle.std.proofs.Common.{◌≡◌, ◌+◌, ◌*◌, ◌/◌, ◌≤◌, ◌++◌, length, map, take}
use Rattle.std.specs.List.{flat_map}
use Rattle.league.specs.Counts.{teams_of}
use Rattle.rows.specs.Cardinality.{exactly}
use Rattle.rows.specs.Literals.{yes}
use Rattle.encoding.specs.Variables.{h_var}
use Rattle.encoding.proofs.season_rows.add_slot_rows.Given as goal

abbrev pub invariant-loop-slot : goal.invariant-loop-slot
invariant-loop-slot l = record {
  so_far : l.draft.rows ≡ l.fn.draft.rows ++ flat_map
      (λ s. exactly (l.season / 2) (map (λ i. yes (h_var l.season i s)) (teams_of l.season)))
      (take l.slot-index l.slots);
  few : length l.draft.rows ≤ length l.fn.draft.rows + 2 * l.slot-index;
}
