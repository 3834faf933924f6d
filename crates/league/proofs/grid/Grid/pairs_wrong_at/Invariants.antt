use Rattle.std.proofs.Common.{◌≡◌, ◌≤◌, ◌&&◌, ◌==◌, not}
use Rattle.std.specs.List.{count_by, range_with_len}
use Rattle.league.specs.Structure.{isnt_one}
use Rattle.league.specs.Grid.{entry}
use Rattle.league.proofs.grid.Grid.pairs_wrong_at.Given as goal

abbrev pub invariant-loop-away : goal.invariant-loop-away
invariant-loop-away l = record {
  counted : l.wrong ≡ count_by (λ away. not (away == l.home) && isnt_one (entry l.self l.home away)) (range_with_len 0 l.away);
  bounded : l.wrong ≤ l.away;
}
