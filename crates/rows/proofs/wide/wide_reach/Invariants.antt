use Rattle.std.proofs.Common.{◌≡◌, ◌≤◌, take}
use Rattle.rows.specs.Partials as partials
use Rattle.rows.specs.Values.{valued}
use Rattle.rows.specs.Sums.{weight_of}
use Rattle.rows.proofs.wide.wide_reach.Given as goal

abbrev pub invariant-loop-term : goal.invariant-loop-term
invariant-loop-term l = record {
  so_far : l.sum ≡ partials.reach (valued l.partial) (take l.term-index l.terms);
  most : l.sum ≤ weight_of (take l.term-index l.terms);
}
