use Rattle.std.proofs.Common.{◌≡◌, ◌≤◌, ◌*◌, [], ◌∷◌, get_or, take}
use Rattle.std.specs.List.{sum_by}
use Rattle.league.specs.Capacity.{meetings_with}
use Rattle.league.specs.Meetings.{games_of}
use Rattle.rule_core.specs.Table.{table_counts}
use Rattle.deviation.proofs.opponents.Opponents.games_in.Given as goal

abbrev pub invariant-loop-slot : goal.invariant-loop-slot
invariant-loop-slot l = record {
  counted : l.games ≡ sum_by (λ s. games_of (table_counts l.cells) (meetings_with l.self.side (get_or l.self.teams1 l.key 0) l.self.teams2) (s ∷ [])) (take l.slot-index l.slots);
  bounded : l.games ≤ 1560000 * l.slot-index;
}
