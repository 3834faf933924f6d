use Rattle.std.proofs.Common.{◌≡◌, ◌+◌, ◌-◌, ◌≤◌}
use Rattle.std.specs.List.{count_by, range_with_len}
use Rattle.league.specs.Structure.{isnt_one}
use Rattle.league.specs.Grid.{entry}
use Rattle.league.proofs.grid.Grid.phases_wrong_at.Given as goal

abbrev pub invariant-loop-later : goal.invariant-loop-later
invariant-loop-later l = record {
  counted : l.wrong ≡ count_by (λ j. isnt_one (entry l.self l.team j + entry l.self j l.team)) (range_with_len (l.team + 1) (l.later - (l.team + 1)));
  bounded : l.wrong ≤ l.later;
}
