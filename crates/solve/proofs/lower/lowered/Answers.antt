use Rattle.solve.proofs.KeptLemmas.{season-unstopped}
use Rattle.solve.proofs.lower.lowered.Goals as goal

pub returns-clause-descends : goal.returns-clause-descends
returns-clause-descends c =
    season-unstopped c.args.league.now c.args.moves _ c.lowered_watched.result (λ never. never)
    c.lowered_watched.ensures.season
