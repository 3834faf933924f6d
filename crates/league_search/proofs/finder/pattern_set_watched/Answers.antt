use Rattle.std.proofs.Common.{ℕ, ◌-◌, subst}
use Rattle.clause_search.specs.Answers.{IsAnswer}
use Rattle.league_search.proofs.PickLemmas.{known_here}
use Rattle.league_search.proofs.StopLemmas.{answered-by}
use Rattle.league_search.proofs.finder.pattern_set_watched.Goals as goal

pub search_watched-requires-clause-known : goal.search_watched-requires-clause-known
search_watched-requires-clause-known g c =
    known_here c.args.encoding.now _ c.vars.result c.rows.result.now _ _ c.rows.ensures c.vars.ensures.vars
    c.in_ok-picked.ensures c.vars.ensures.known

pub returns : goal.returns
returns g c =
    answered-by c.args.encoding.now c.in_ok-picked.picked.rows (c.vars.result - c.x_count-games.result) c.args.limit
    (g.W.Watch.may_stop c.args.watch.now) c.in_ok-found.found c.answer.result c.in_ok-found.ensures.answer
    (λ kept is. c.answer.ensures kept
    (subst
    (λ (vars : ℕ). IsAnswer c.in_ok-picked.picked.rows (vars - c.x_count-games.result) kept c.in_ok-found.found)
    c.vars.ensures.vars is))
