use Rattle.std.proofs.Common.{◌≡◌, ◌≤◌, ◌*◌, [], ◌∷◌, take}
use Rattle.std.specs.List.{sum_by}
use Rattle.league.specs.Meetings.{games_of}
use Rattle.rule_core.specs.Table.{table_counts}
use Rattle.deviation.proofs.by_slot.games_by_slot.Given as goal

abbrev pub invariant-loop-slot : goal.invariant-loop-slot
invariant-loop-slot l = record {
  counted : l.games ≡ sum_by (λ s. games_of (table_counts l.cells) l.meetings.list (s ∷ []))
      (take l.slot-index l.slots);
  bounded : l.games ≤ 16000000 * l.slot-index;
}
