use Rattle.std.proofs.Common.{◌≡◌, ◌-◌, ◌^◌, ◌≤◌, max, min, take}
use Rattle.std.specs.List.{fold, sum_by}
use Rattle.planes.specs.Slack.{free_at, not_false_at}
use Rattle.planes.proofs.plane.Plane.look.Given as goal

abbrev pub invariant-loop-lit : goal.invariant-loop-lit
invariant-loop-lit l = record {
  sum : l.sum ≡ min (sum_by (not_false_at l.self.counts.coefs.items l.trail l.level) (take l.lit-index l.self.counts.touched.items)) (2 ^ 64 - 1);
  most : l.most ≡ fold (λ most lit. max (free_at l.self.counts.coefs.items l.trail l.level lit) most) 0 (take l.lit-index l.self.counts.touched.items);
  fits : l.most ≤ 2 ^ 63 - 1;
}
