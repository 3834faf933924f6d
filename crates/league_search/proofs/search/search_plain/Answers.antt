use Rattle.league_search.proofs.FoundLemmas.{knows-here, plain-by}
use Rattle.league_search.proofs.search.search_plain.Goals as goal

pub search_watched-requires-clause-known : goal.search_watched-requires-clause-known
search_watched-requires-clause-known g c =
    knows-here c.args.encoding.now c.rows.result.now c.vars-vars.result c.rows.ensures c.vars-vars.ensures.vars
    c.vars-vars.ensures.known

pub returns : goal.returns
returns g c =
    plain-by c.args.encoding.now c.rows.result.now c.vars-vars.result c.args.limit (g.W.Watch.may_stop c.args.watch.now)
    c.in_ok-found.found c.rows.ensures c.vars-vars.ensures.vars c.vars-vars.ensures.at_most
    c.in_ok-found.ensures.answer
