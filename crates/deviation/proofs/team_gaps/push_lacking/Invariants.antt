use Rattle.std.proofs.Common.{◌≡◌, ◌++◌, ◌+◌, ◌≤◌, drop, length, map}
use Rattle.std.specs.Prelude.{vec_capacity, vec_len}
use Rattle.league.specs.Meetings.{pairs_of}
use Rattle.league.specs.Separation.{se1_entry}
use Rattle.rule_core.specs.Table.{table_counts}
use Rattle.deviation.proofs.team_gaps.push_lacking.Given as goal

abbrev pub invariant-loop-place : goal.invariant-loop-place
invariant-loop-place l = record {
  entries : l.entries.items ++ map (se1_entry l.cells.n (table_counts l.cells) l.min)
      (pairs_of (drop l.place l.teams)) ≡ l.initial.entries.items ++ map
      (se1_entry l.cells.n (table_counts l.cells) l.min) (pairs_of l.teams);
  room : vec_len l.entries + length (pairs_of (drop l.place l.teams)) ≤ vec_capacity l.entries;
}
