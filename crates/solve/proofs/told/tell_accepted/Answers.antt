use Rattle.std.proofs.Common.{◌≡◌, List, subst, sym}
use Rattle.league.specs.Accepted.{IsAccepted}
use Rattle.league.specs.Accepted as costs
use Rattle.league.specs.Counts.{counts_of}
use Rattle.league.specs.declared.game.Game.{Game}
use Rattle.solve.proofs.AnswerLemmas.{passed}
use Rattle.solve.proofs.told.tell_accepted.Goals as goal

pub tell_season-requires-clause-accepted : goal.tell_season-requires-clause-accepted
tell_season-requires-clause-accepted g c =
    subst (λ (games : List Game). IsAccepted c.args.league.now (counts_of games)) (sym c.games.ensures)
    (c.in_ok-assessment.ensures.feasible.0
    (passed c.in_ok-assessment.assessment.feasible c.if-not-assessment.false))

pub tell_season-requires-clause-cost : goal.tell_season-requires-clause-cost
tell_season-requires-clause-cost g c =
    subst
    (λ (games : List Game). c.in_ok-assessment.assessment.objective
    ≡ costs.objective c.args.league.now (counts_of games)) (sym c.games.ensures)
    c.in_ok-assessment.ensures.objective
