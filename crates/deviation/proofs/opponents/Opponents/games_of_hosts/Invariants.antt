use Rattle.std.proofs.Common.{◌≡◌, ◌≤◌, ◌*◌, [], ◌∷◌, take}
use Rattle.std.specs.List.{filter, sum_by}
use Rattle.league.specs.Capacity.{is_between}
use Rattle.league.specs.Meetings.{games_of, meetings_of}
use Rattle.rule_core.specs.Table.{table_counts}
use Rattle.deviation.proofs.opponents.Opponents.games_of_hosts.Given as goal

abbrev pub invariant-loop-slot : goal.invariant-loop-slot
invariant-loop-slot l = record {
  counted : l.games
      ≡ sum_by (λ s. games_of (table_counts l.cells)
      (filter (is_between l.self.side l.self.teams1 l.self.teams2) (meetings_of l.cells.n)) (s ∷ []))
      (take l.slot-index l.slots);
  bounded : l.games ≤ 16000000 * l.slot-index;
}
