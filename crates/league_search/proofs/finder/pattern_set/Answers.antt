use Rattle.league_search.proofs.StopLemmas.{unstopped}
use Rattle.league_search.proofs.finder.pattern_set.Goals as goal

pub returns : goal.returns
returns c =
    unstopped c.args.encoding.now c.args.limit _ c.pattern_set_watched.result (λ never. never)
    c.pattern_set_watched.ensures
