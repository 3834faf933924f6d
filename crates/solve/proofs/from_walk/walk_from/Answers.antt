use Rattle.std.proofs.Common.{arith}
use Rattle.league.specs.Counts.{counts_of}
use Rattle.solve.proofs.StartLemmas.{found-no_higher}
use Rattle.solve.proofs.from_walk.walk_from.Goals as goal

pub lowered_told-requires-clause-accepted : goal.lowered_told-requires-clause-accepted
lowered_told-requires-clause-accepted g c = c.in_ok-walked.ensures.feasible.0 (omega arith)

pub returns-clause-no_worse : goal.returns-clause-no_worse
returns-clause-no_worse g c = λ accepted.
    found-no_higher c.args.league.now c.in_ok-season.ensures.season.kept _ c.in_ok-season.season
    c.in_ok-walked.walked.best (counts_of c.args.start.now) c.in_ok-season.ensures.season.is_season
    c.in_ok-season.ensures.first
    c.in_ok-walked.ensures.season c.in_ok-walked.ensures.no_worse accepted
