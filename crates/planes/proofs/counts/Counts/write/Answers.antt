use Rattle.std.proofs.Common.{◌≤◌, to_z, w64, arith}
use Rattle.planes.specs.Numbers.{size_of}
use Rattle.planes.proofs.CoefLemmas.{written}
use Rattle.planes.proofs.counts.Counts.write.Goals as goal

pub invariant_of-self : goal.invariant_of-self
invariant_of-self c =
    let count = to_z w64 c.if-positive.signed-bits in
    let below : c.args.self.now.greatest ≤ c.max-self.result = omega arith in
    let fits : size_of count ≤ c.max-self.result = omega (arith, c.size.ensures) in
    record {
      at_most = written c.args.self.now.greatest c.max-self.result c.args.self.now.coefs.items c.args.self.now.touched.items
          c.var-at.result count (omega arith) below fits c.args.self.now.at_most;
    }
