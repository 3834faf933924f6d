use Rattle.std.proofs.Common.{take}
use Rattle.clause_search.specs.Kept.{IsPart}
use Rattle.clause_search.proofs.kept.Kept.leave_out.Given as goal

abbrev pub invariant-loop-index : goal.invariant-loop-index
invariant-loop-index l = IsPart l.places.items (take l.index l.self.places.items)
