use Rattle.std.proofs.Common.{◌≡◌, ◌*◌, ◌^◌, ◌≤◌, take}
use Rattle.rows.specs.Partials as partials
use Rattle.rows.specs.Values.{valued}
use Rattle.rows.proofs.forcing.reach.Given as goal

abbrev pub invariant-loop-term : goal.invariant-loop-term
invariant-loop-term l = record {
  so_far : l.sum ≡ partials.reach (valued l.partial) (take l.term-index l.terms);
  most : l.sum ≤ 2 ^ 32 * l.term-index;
}
