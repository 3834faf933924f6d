use Rattle.std.proofs.Common.{◌≡◌, ◌≤◌, ◌*◌, take}
use Rattle.std.specs.List.{sum_by}
use Rattle.rule_core.specs.Spare.{spare_counts}
use Rattle.rule_core.proofs.spare.copies_at_home.Given as goal

abbrev pub invariant-loop-other : goal.invariant-loop-other
invariant-loop-other l = record {
  counted : l.games ≡ sum_by (λ j. spare_counts l.spare.items l.team.0 j l.slot.0) (take l.other-index l.others);
  bounded : l.games ≤ 10000 * l.other-index;
}
