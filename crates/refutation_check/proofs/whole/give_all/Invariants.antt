use Rattle.std.proofs.Common.{◌≡◌, ◌≤◌, ℕ, true, take}
use Rattle.std.specs.List.{fold}
use Rattle.refutation_check.specs.Judged.{after_step}
use Rattle.refutation_check.specs.Room.{has_room}
use Rattle.refutation_check.proofs.whole.give_all.Given as goal

abbrev pub invariant-loop-k : goal.invariant-loop-k
invariant-loop-k l = record {
  judged : l.checker ≡ fold after_step l.fn.checker (take l.k l.log);
  early : (j : ℕ) → 1 ≤ j → j ≤ l.k → has_room l.room (fold after_step l.fn.checker (take j l.log)) ≡ true;
  within : has_room l.room l.fn.checker ≡ true → has_room l.room l.checker ≡ true;
}
