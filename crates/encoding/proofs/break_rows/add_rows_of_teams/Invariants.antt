use Rattle.std.proofs.Common.{◌≡◌, ◌+◌, ◌*◌, ◌≤◌, ◌++◌, length, take}
use Rattle.std.specs.List.{flat_map}
use Rattle.league.specs.Counts.{slots_of}
use Rattle.encoding.specs.Lists.{after_first}
use Rattle.encoding.specs.Season.{break_rows_at}
use Rattle.encoding.proofs.break_rows.add_rows_of_teams.Given as goal

abbrev pub invariant-loop-team : goal.invariant-loop-team
invariant-loop-team l = record {
  so_far : l.draft.rows ≡ l.fn.draft.rows ++ flat_map
      (λ i. flat_map (break_rows_at l.season i) (after_first (slots_of l.season))) (take l.team-index l.teams);
  few : length l.draft.rows ≤ length l.fn.draft.rows + 468 * l.team-index;
}
