use Rattle.std.proofs.Common.{◌≡◌}
use Rattle.clause_search.proofs.kept.Kept.need.Given as goal

abbrev pub invariant-loop-number : goal.invariant-loop-number
invariant-loop-number l = record {
  places : l.self.places.items ≡ l.fn.self.places.items;
  room : l.self.room ≡ l.fn.self.room;
}
