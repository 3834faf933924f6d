use Rattle.std.proofs.Common.{◌≡◌, List, ap, subst, sym, ◌∙◌}
use Rattle.std.specs.Prelude.{IfOk}
use Rattle.league.specs.Accepted.{IsAccepted}
use Rattle.league.specs.Counts.{Counts, counts_of}
use Rattle.league.specs.declared.game.Game.{Game}
use Rattle.solve.specs.declared.lower.Season.{Season}
use Rattle.solve.proofs.LowerLemmas.{found-settled}
use Rattle.solve.proofs.lower.lowered_watched.Goals as goal

pub descended-requires-clause-accepted : goal.descended-requires-clause-accepted
descended-requires-clause-accepted g c =
    subst (λ (m : Counts). IsAccepted c.args.league.now m)
    (sym (c.in_ok-tally.ensures.counts ∙ ap (λ (games : List Game). counts_of games) c.games.ensures))
    c.requires.accepted

pub returns-clause-first : goal.returns-clause-first
returns-clause-first g c =
    subst (λ (m : Counts). IfOk c.descended.result (λ (season : Season). counts_of season.descent.first ≡ m))
    (c.in_ok-tally.ensures.counts ∙ ap (λ (games : List Game). counts_of games) c.games.ensures)
    c.descended.ensures.first

pub returns-clause-settles : goal.returns-clause-settles
returns-clause-settles g c = λ some.
    found-settled c.args.league.now (counts_of c.args.start.now) c.args.moves (g.W.Watch.may_stop c.args.watch.now)
    c.descended.result c.descended.ensures.season (returns-clause-first g c) some
