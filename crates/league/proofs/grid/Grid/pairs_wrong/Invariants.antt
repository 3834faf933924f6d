use Rattle.std.proofs.Common.{◌≡◌, ◌≤◌, ◌*◌, ◌&&◌, ◌==◌, not}
use Rattle.std.specs.List.{count_by, range_with_len, sum_by}
use Rattle.league.specs.Counts.{teams_of}
use Rattle.league.specs.Structure.{isnt_one}
use Rattle.league.specs.Grid.{entry}
use Rattle.league.proofs.grid.Grid.pairs_wrong.Given as goal

abbrev pub invariant-loop-home : goal.invariant-loop-home
invariant-loop-home l = record {
  counted : l.wrong ≡ sum_by (λ i. count_by (λ j. not (j == i) && isnt_one (entry l.self i j)) (teams_of l.n)) (range_with_len 0 l.home);
  bounded : l.wrong ≤ 65535 * l.home;
}
