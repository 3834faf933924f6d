use Rattle.std.proofs.Common.{◌<◌, length, get_or, arith, subst, sym}
use Rattle.moves.specs.Moves.{IsOfLeague}
use Rattle.moves.specs.declared.swap.Swap.{Swap}
use Rattle.resume.specs.declared.kept_walk.Walk.{Walk}
use Rattle.resume.proofs.WalkLemmas.{move-of_league}
use Rattle.resume.proofs.kept_walk.Walk.find_between.Goals as goal

pub is_better-requires-clause-league : goal.is_better-requires-clause-league
is_better-requires-clause-league g c =
    let walk = c.args.self.now in
    let step : Swap = c.index.result.now in
    let within : c.loop-place.place < length walk.moves.items =
    omega (arith, c.loop-place-test.true, c.requires.end) in
    subst (λ (s : Swap). IsOfLeague c.loop-place.self.ground.plan.league.now.n s) (sym c.index.ensures)
    (subst (λ (w : Walk). IsOfLeague w.ground.plan.league.now.n (get_or w.moves.items c.loop-place.place step))
    (sym c.loop-place.invariant.same)
    (move-of_league g.R.Entries walk c.args.tally.now c.loop-place.place step c.requires.walk within))
