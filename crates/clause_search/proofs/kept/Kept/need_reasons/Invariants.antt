use Rattle.std.proofs.Common.{◌≡◌}
use Rattle.clause_search.proofs.kept.Kept.need_reasons.Given as goal

abbrev pub invariant-loop-k : goal.invariant-loop-k
invariant-loop-k l = record {
  places : l.self.places.items ≡ l.fn.self.places.items;
  room : l.self.room ≡ l.fn.self.room;
}
