use Rattle.std.proofs.Common.{ap, sym, ◌∙◌, arith}
use Rattle.encoding.specs.Keys.{places_of, width}
use Rattle.encoding.proofs.SubjectLemmas.{firsts_fit}
use Rattle.encoding.proofs.subjects.places_of.Goals as goal

pub returns-in-Ca3-clause-fit : goal.returns-in-Ca3-clause-fit
returns-in-Ca3-clause-fit c = λ k d there.
    omega (
      arith,
      firsts_fit c.args.n c.from.result c.firsts.result.now c.firsts.ensures.firsts k d there,
      c.from.ensures,
      ap (width c.args.n) c.in-Ca3.is,
    )

pub returns-in-Se1-clause-fit : goal.returns-in-Se1-clause-fit
returns-in-Se1-clause-fit c = λ k d there.
    omega (arith, c.separation_places.ensures.fit k d there, ap (width c.args.n) c.in-Se1.is)

pub returns-in-Se1-clause-places : goal.returns-in-Se1-clause-places
returns-in-Se1-clause-places c =
    c.separation_places.ensures.places c.in-Se1.teams ∙ sym (ap (places_of c.args.n) c.in-Se1.is)
