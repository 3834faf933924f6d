use Rattle.std.proofs.Common.{◌≡◌, length, take}
use Rattle.rows.specs.Trails.{IsListed}
use Rattle.rows.specs.Values.{valued}
use Rattle.rows.proofs.TrailLemmas.{forced_so_far}
use Rattle.rows.proofs.wide.wide_force.Given as goal

abbrev pub invariant-loop-term : goal.invariant-loop-term
invariant-loop-term l = record {
  so_far : valued l.partial ≡ forced_so_far (valued l.fn.partial) l.terms l.degree (take l.term-index l.terms);
  kept : length l.partial ≡ length l.fn.partial;
  listed : IsListed l.partial l.trail.items;
}
