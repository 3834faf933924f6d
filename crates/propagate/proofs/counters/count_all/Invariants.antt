use Rattle.std.proofs.Common.{◌≡◌, ◌+◌, ◌*◌, length}
use Rattle.rows.specs.Values.{valued}
use Rattle.propagate.specs.Tables.{AreCounted}
use Rattle.propagate.proofs.counters.count_all.Given as goal

abbrev pub invariant-loop-k : goal.invariant-loop-k
invariant-loop-k l = record {
  slots : length l.table.lists ≡ 2 * length l.values + 2;
  counted : AreCounted l.numbered l.k (valued l.values) l.table;
}
