use Rattle.std.proofs.Common.{◌≡◌, ◌+◌, ◌-◌, ◌*◌, ◌≤◌, ◌++◌, length, take}
use Rattle.std.specs.List.{flat_map}
use Rattle.league.specs.Counts.{slots_of}
use Rattle.rows.specs.Cardinality.{exactly}
use Rattle.encoding.specs.Lists.{at_home_in}
use Rattle.encoding.proofs.season_rows.add_team_rows.Given as goal

abbrev pub invariant-loop-team : goal.invariant-loop-team
invariant-loop-team l = record {
  so_far : l.draft.rows ≡ l.fn.draft.rows ++ flat_map
      (λ i. exactly (l.season - 1) (at_home_in l.season i (slots_of l.season))) (take l.team-index l.teams);
  few : length l.draft.rows ≤ length l.fn.draft.rows + 2 * l.team-index;
}
