use Rattle.std.proofs.Common.{◌≡◌, true, drop, take}
use Rattle.std.specs.List.{fold}
use Rattle.refutation_check.specs.Forgotten.{IsLean}
use Rattle.refutation_check.specs.Judged.{after_step}
use Rattle.refutation_check.specs.Room.{has_room}
use Rattle.refutation_check.proofs.lean.judge_all.Given as goal

abbrev pub invariant-loop-k : goal.invariant-loop-k
invariant-loop-k l = record {
  rows : l.checker.rows ≡ l.fn.checker.rows;
  lean : IsLean (fold after_step l.fn.checker (take l.k l.log)) l.checker l.freed (drop l.k l.log);
  within : has_room l.room l.fn.checker ≡ true
      → has_room l.room (fold after_step l.fn.checker (take l.k l.log)) ≡ true;
}
