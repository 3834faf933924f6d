use Rattle.std.proofs.Common.{◌≡◌, ◌≤◌, ◌*◌}
use Rattle.std.specs.List.{count_by, range_with_len, sum_by}
use Rattle.league.specs.Counts.{slots_of}
use Rattle.league.specs.Structure.{isnt_one}
use Rattle.league.specs.Grid.{entry}
use Rattle.league.proofs.grid.Grid.cells_wrong.Given as goal

abbrev pub invariant-loop-team : goal.invariant-loop-team
invariant-loop-team l = record {
  counted : l.wrong ≡ sum_by (λ i. count_by (λ s. isnt_one (entry l.self i s)) (slots_of l.n)) (range_with_len 0 l.team);
  bounded : l.wrong ≤ 65535 * l.team;
}
