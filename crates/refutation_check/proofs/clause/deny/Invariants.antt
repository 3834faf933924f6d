use Rattle.std.proofs.Common.{◌≡◌, false, length, map, take}
use Rattle.rows.specs.Cardinality.{unit}
use Rattle.rows.specs.Trails.{IsListed}
use Rattle.rows.specs.Values.{valued}
use Rattle.refutation.specs.Following.{denied, distinct, has_opposites}
use Rattle.refutation_check.proofs.clause.deny.Given as goal

abbrev pub invariant-loop-lit : goal.invariant-loop-lit
invariant-loop-lit l = record {
  plain : has_opposites (take l.lit-index l.clause) ≡ false;
  terms : l.terms.items ≡ map unit (distinct (take l.lit-index l.clause));
  values : valued l.partial ≡ denied (take l.lit-index l.clause);
  kept : length l.partial ≡ length l.fn.partial;
  listed : IsListed l.partial l.trail.items;
}
