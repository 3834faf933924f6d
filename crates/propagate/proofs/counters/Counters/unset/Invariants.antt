use Rattle.std.proofs.Common.{◌≡◌}
use Rattle.rows.specs.Literals.{negate}
use Rattle.rows.specs.Values.{valued}
use Rattle.propagate.specs.Links.{links_of}
use Rattle.propagate.proofs.CountLemmas.{IsMoving}
use Rattle.propagate.proofs.counters.Counters.unset.Given as goal

abbrev pub invariant-rows : goal.invariant-rows
invariant-rows l = record {
  rows : l.self-inside.rows ≡ l.initial.self-inside.rows;
  values : l.self-inside.values ≡ l.initial.self-inside.values;
  lists : l.self-inside.table.lists ≡ l.initial.self-inside.table.lists;
  enough : l.self-inside.table.enough.items ≡ l.initial.self-inside.table.enough.items;
  moving : IsMoving l.initial.self-inside.rows (links_of l.initial.self-inside.table.lists (negate l.fn.lit)) (negate l.fn.lit) (valued l.fn.self.values) (valued l.initial.self-inside.values) l.at
      l.self-inside.table.reach.items;
}

abbrev pub decreases-rows : goal.decreases-rows
decreases-rows l = l.at
