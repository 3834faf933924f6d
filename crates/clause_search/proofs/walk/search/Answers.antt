use Rattle.clause_search.proofs.StopLemmas.{unstopped}
use Rattle.clause_search.proofs.walk.search.Goals as goal

pub returns : goal.returns
returns c =
    unstopped c.args.rows.now c.args.vars c.args.limit _ c.search_watched.result (λ never. never)
    c.search_watched.ensures.answer
