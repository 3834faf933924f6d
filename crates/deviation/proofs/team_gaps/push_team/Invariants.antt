use Rattle.std.proofs.Common.{◌≡◌, ◌+◌, ◌++◌, map, take, vec_len}
use Rattle.std.specs.Prelude.{vec_capacity}
use Rattle.league.specs.Separation.{se1_entry}
use Rattle.rule_core.specs.Table.{table_counts}
use Rattle.deviation.proofs.team_gaps.push_team.Given as goal

abbrev pub invariant-loop-second : goal.invariant-loop-second
invariant-loop-second l = record {
  entries : l.entries.items ≡ l.initial.entries.items ++ map
      (λ second. se1_entry l.cells.n (table_counts l.cells) l.min (l.fn.first.0, second))
      (take l.second-index l.later);
  pushed : vec_len l.entries ≡ vec_len l.initial.entries + l.second-index;
  room : vec_capacity l.entries ≡ vec_capacity l.initial.entries;
}
