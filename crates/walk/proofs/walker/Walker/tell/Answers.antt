use Rattle.std.proofs.Common.{◌≡◌, List, ap, arith, subst, sym, ◌∙◌}
use Rattle.league.specs.Accepted.{IsAccepted}
use Rattle.league.specs.Accepted as costs
use Rattle.league.specs.Counts.{counts_of}
use Rattle.league.specs.declared.game.Game.{Game}
use Rattle.descent.specs.declared.score.Score.{Score}
use Rattle.walk.proofs.WalkLemmas.{kept-accepted}
use Rattle.walk.proofs.walker.Walker.tell.Goals as goal

pub tell_season-requires-clause-accepted : goal.tell_season-requires-clause-accepted
tell_season-requires-clause-accepted g c =
    subst (λ (games : List Game). IsAccepted c.args.league.now (counts_of games)) (sym c.games.ensures)
    (kept-accepted c.args.league.now c.args.self.now.best c.requires.best
    (omega (arith, ap (λ (s : Score). s.infeasibility) c.score-cost.ensures)))

pub tell_season-requires-clause-cost : goal.tell_season-requires-clause-cost
tell_season-requires-clause-cost g c =
    subst (λ (games : List Game). c.score-cost.result.objective ≡ costs.objective c.args.league.now (counts_of games))
    (sym c.games.ensures) (ap (λ (s : Score). s.objective) (c.score-cost.ensures ∙ c.requires.best.score))
