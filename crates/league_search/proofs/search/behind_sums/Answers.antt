use Rattle.encoding.specs.Variables.{var_count}
use Rattle.league_search.proofs.FoundLemmas.{few_here, found_here, refuted-behind, refuted-clauses, satisfied-behind}
use Rattle.league_search.proofs.FoundLemmas.{spent-behind, spent-clauses}
use Rattle.league_search.proofs.search.behind_sums.Goals as goal

pub behind-requires : goal.behind-requires
behind-requires c =
    refuted-clauses c.args.rows.now (var_count c.args.encoding.now) c.requires.found.0 c.in-Refuted.search
    (found_here c.args.rows.now (var_count c.args.encoding.now) c.requires.found.0 _ _ c.in-Refuted.is
    c.requires.found.1)

pub behind-requires-in-Spent : goal.behind-requires-in-Spent
behind-requires-in-Spent c =
    spent-clauses c.args.rows.now (var_count c.args.encoding.now) c.requires.found.0 c.in-Spent.search
    (found_here c.args.rows.now (var_count c.args.encoding.now) c.requires.found.0 _ _ c.in-Spent.is
    c.requires.found.1)

pub returns-in-Sat : goal.returns-in-Sat
returns-in-Sat c = λ limit is.
    satisfied-behind c.args.encoding.now c.args.sums c.args.rows.now limit c.in-Sat.values c.requires.longer
    (found_here c.args.rows.now (var_count c.args.encoding.now) limit _ _ c.in-Sat.is is)

pub returns-in_ok-log-in-Refuted : goal.returns-in_ok-log-in-Refuted
returns-in_ok-log-in-Refuted c = λ limit is.
    refuted-behind c.args.encoding.now c.args.sums c.in-Refuted.search c.in_ok-log-in-Refuted.log c.args.rows.now limit
    (few_here c.args.encoding.now c.vars-vars.result c.vars-vars.ensures.vars c.vars-vars.ensures.at_most)
    c.requires.breaks c.requires.longer c.requires.writable c.in_ok-log-in-Refuted.ensures
    (found_here c.args.rows.now (var_count c.args.encoding.now) limit _ _ c.in-Refuted.is is)

pub returns-in_ok-log-in-Spent : goal.returns-in_ok-log-in-Spent
returns-in_ok-log-in-Spent c = λ limit is.
    spent-behind c.args.encoding.now c.args.sums c.in-Spent.search c.in_ok-log-in-Spent.log c.args.rows.now limit
    (few_here c.args.encoding.now c.vars-vars.result c.vars-vars.ensures.vars c.vars-vars.ensures.at_most)
    c.requires.breaks c.requires.longer c.requires.writable c.in_ok-log-in-Spent.ensures
    (found_here c.args.rows.now (var_count c.args.encoding.now) limit _ _ c.in-Spent.is is)
