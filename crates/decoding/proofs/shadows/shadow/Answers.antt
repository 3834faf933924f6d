-- What was marked is the schedule's shadow, and the shadow of an accepted schedule satisfies every row.
use Rattle.std.proofs.Common.{List, subst}
use Rattle.std.proofs.lemmas.List.Elements.{All-same}
use Rattle.league.specs.Counts.{counts_of}
use Rattle.league.specs.Instance.{IsGame}
use Rattle.league.specs.declared.game.Game.{Game}
use Rattle.rows.specs.Values.{assigned}
use Rattle.encoding.specs.Shadow.{IsShadow}
use Rattle.encoding.specs.Variables.{has_breaks}
use Rattle.decoding.proofs.Faithful.{rows-from_accepted}
use Rattle.decoding.proofs.ShadowLaw.{IsShadow-from_marks}
use Rattle.decoding.proofs.MarkLemmas.{assigned-empty}
use Rattle.decoding.proofs.shadows.shadow.Goals as goal

pub returns-clause-shadow : goal.returns-clause-shadow
returns-clause-shadow c =
    let league = c.args.encoding.now in
    let games = c.games-games.result.now in
    let breaks = has_breaks league.constraints in
    let fit = All-same (IsGame league.n) games c.args.schedule.now c.games-games.ensures c.requires.fit in
    subst (λ (listed : List Game). IsShadow league.n breaks (counts_of listed) (assigned c.mark_breaks.new.values))
    c.games-games.ensures
    (IsShadow-from_marks league.n games fit breaks (assigned c.in_ok-values.values)
    (assigned c.mark_games.new.values) (assigned c.mark_home_games.new.values) (assigned c.mark_breaks.new.values)
    (assigned-empty c.vars.result c.in_ok-values.values c.in_ok-values.ensures) c.mark_games.ensures.marked
    c.mark_home_games.ensures.marked
    c.in_ok-mark_breaks.ensures.kept c.in_ok-mark_breaks.ensures.home c.in_ok-mark_breaks.ensures.away)

pub returns-clause-satisfies : goal.returns-clause-satisfies
returns-clause-satisfies c = λ accepted.
    rows-from_accepted c.args.encoding.now (counts_of c.args.schedule.now) (assigned c.mark_breaks.new.values)
    c.vars.ensures.instance accepted (returns-clause-shadow c)
