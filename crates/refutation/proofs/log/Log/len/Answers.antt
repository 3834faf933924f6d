use Rattle.std.proofs.Common.{arith}
use Rattle.refutation.specs.Flat.{Lists}
use Rattle.refutation.proofs.FlatLemmas.{length-kept}
use Rattle.refutation.proofs.log.Log.len.Goals as goal

pub returns : goal.returns
returns c =
    let lists : Lists = record {
      lits = c.self.inside.lits.items;
      hints = c.self.inside.hints.items;
      parts =
          c.self.inside.parts.items;
    } in
    omega (arith, length-kept lists c.self.inside.ends.items c.args.self.now c.self.view_is, c.self.inside.ends.ok)
