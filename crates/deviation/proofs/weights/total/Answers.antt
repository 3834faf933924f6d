use Rattle.std.proofs.Common.{◌^◌, arith}
use Rattle.std.proofs.Math.Facts.{Fits-lt-pow}
use Rattle.deviation.proofs.EntryLemmas.{sum-le}
use Rattle.deviation.proofs.weights.total.Goals as goal

pub returns-clause-small : goal.returns-clause-small
returns-clause-small c = omega (arith, c.sum_of.ensures, sum-le (2 ^ 64) c.args.entries.now (λ i. Fits-lt-pow (c.type_inv.entries i)))
