use Rattle.std.proofs.Common.{arith}
use Rattle.encoding.proofs.SeasonSizes.{size_of-halves, size_of-season}
use Rattle.encoding.proofs.totals.season_terms.Goals as goal

pub returns-clause-terms : goal.returns-clause-terms
returns-clause-terms c = omega
    (arith, size_of-season c.args.n c.args.phased, size_of-halves c.args.n c.args.phased, c.half_terms.ensures.terms)
