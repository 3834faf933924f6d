use Rattle.std.proofs.Common.{◌≡◌, length, map, string_bytes}
use Rattle.robinx.specs.Names.{are_distinct}
use Rattle.robinx.proofs.labels.are_distinct.Given as goal

abbrev pub invariant-rest : goal.invariant-rest
invariant-rest l = are_distinct (map string_bytes l.rest) ≡ are_distinct (map string_bytes l.texts)

abbrev pub decreases-rest : goal.decreases-rest
decreases-rest l = length l.rest
