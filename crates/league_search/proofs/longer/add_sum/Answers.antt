use Rattle.std.proofs.Common.{sym, ◌∙◌}
use Rattle.league_search.proofs.SumLemmas.{longer-read}
use Rattle.league_search.proofs.longer.add_sum.Goals as goal

pub returns-in-Linear-clause-longer : goal.returns-in-Linear-clause-longer
returns-in-Linear-clause-longer c =
    longer-read c.args.vars c.args.k c.divisor.result c.args.sums.now c.parts.result.now c.args.longer.now
    c.add_linear.new.longer c.add_linear.result c.requires.there (sym c.kind.ensures ∙ c.in-Linear.is)
    c.parts.ensures.parts c.divisor.ensures.divisor c.add_linear.ensures.longer
