use Rattle.std.proofs.Common.{arith}
use Rattle.encoding.proofs.SubjectLemmas.{firsts_fit}
use Rattle.encoding.proofs.subjects.separation_places.Goals as goal

pub returns-clause-fit : goal.returns-clause-fit
returns-clause-fit c = λ k d there.
    omega (
      arith,
      firsts_fit c.args.n c.from.result c.firsts.result.now c.firsts.ensures.firsts k d there,
      c.from.ensures,
      c.separation_window.ensures,
    )
