use Rattle.encoding.proofs.SeasonSizes.{total_size}
use Rattle.encoding.proofs.totals.encoding_size.Goals as goal

pub returns-clause-terms : goal.returns-clause-terms
returns-clause-terms c =
    total_size c.args.league.now c.n-n.result c.from-teams.result c.phased.result c.has_breaks.result
    c.constraints-constraints.result.now
    c.season_terms-season.result c.break_terms-breaks.result c.hard_terms-hard.result
    c.n-n.ensures.n c.from-teams.ensures c.phased.ensures c.constraints-constraints.ensures c.has_breaks.ensures
    c.season_terms-season.ensures.terms c.break_terms-breaks.ensures.terms c.hard_terms-hard.ensures.terms
