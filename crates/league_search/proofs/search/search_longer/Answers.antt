use Rattle.std.proofs.Common.{ℕ, subst}
use Rattle.clause_search.specs.Answers.{IsAnswer}
use Rattle.league_search.proofs.FoundLemmas.{behind-by}
use Rattle.league_search.proofs.search.search_longer.Goals as goal

pub behind_sums-requires-clause-found : goal.behind_sums-requires-clause-found
behind_sums-requires-clause-found g c = (
  c.in_ok-found.ensures.answer.kept,
  subst (λ (v : ℕ). IsAnswer c.args.longer.rows v c.in_ok-found.ensures.answer.kept c.in_ok-found.found)
      c.vars-vars.ensures.vars c.in_ok-found.ensures.answer.answer,
)

pub returns : goal.returns
returns g c =
    behind-by c.args.encoding.now c.args.longer.rows c.vars-vars.result c.args.limit
    (g.W.Watch.may_stop c.args.watch.now) c.in_ok-found.found c.behind_sums.result c.vars-vars.ensures.vars
    c.in_ok-found.ensures.answer c.behind_sums.ensures
