use Rattle.std.proofs.Common.{◌≡◌, take}
use Rattle.league.specs.Bounds.{largest}
use Rattle.bound_rows.proofs.units.largest_degree.Given as goal

abbrev pub invariant-loop-k : goal.invariant-loop-k
invariant-loop-k l = l.most ≡ largest (λ row. row.degree) (take l.k l.rows)
