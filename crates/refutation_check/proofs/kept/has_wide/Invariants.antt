use Rattle.std.proofs.Common.{◌≡◌, ◌<◌, ◌^◌, false, take}
use Rattle.std.specs.List.{All}
use Rattle.refutation_check.specs.Room.{has_wide}
use Rattle.refutation_check.proofs.kept.has_wide.Given as goal

abbrev pub invariant-loop-term : goal.invariant-loop-term
invariant-loop-term l = record {
  none : has_wide (take l.term-index l.terms) ≡ false;
  narrow : All (λ t. t.coef < 2 ^ 32) (take l.term-index l.terms);
}
