use Rattle.std.proofs.Common.{◌≡◌, ◌≤◌, ℕ, length, get_or}
use Rattle.std.specs.Prelude.{vec_capacity}
use Rattle.rule_core.proofs.spare.reach.Given as goal

abbrev pub invariant-zeros : goal.invariant-zeros
invariant-zeros l = record {
  same : (k : ℕ) → get_or l.spare.items k 0 ≡ get_or l.fn.spare.items k 0;
  long : length l.spare.items ≡ l._place;
  short : (k : ℕ) → length l.fn.spare.items ≤ k → l.fn.end ≤ k → l._place ≤ k;
  room : vec_capacity l.fn.spare ≤ vec_capacity l.spare;
}
