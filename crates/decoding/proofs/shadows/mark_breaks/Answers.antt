-- Home breaks are marked by a table of home games, and then away breaks by one of away games.
use Rattle.rows.specs.Values.{assigned}
use Rattle.decoding.proofs.ShadowLaw.{away_breaks_set, breaks_keep, home_breaks_set}
use Rattle.decoding.proofs.shadows.mark_breaks.Goals as goal

pub returns-clause-kept : goal.returns-clause-kept
returns-clause-kept c =
    breaks_keep c.args.encoding.now.n c.args.games.now c.requires.fit (assigned c.in_ok-home.home)
    (assigned c.in_ok-away.away)
    (assigned c.args.values.now) (assigned c.mark_home_breaks.new.values) (assigned c.mark_away_breaks.new.values)
    c.in_ok-home.ensures.told c.in_ok-away.ensures.told c.mark_home_breaks.ensures.marked
    c.mark_away_breaks.ensures.marked

pub returns-clause-home : goal.returns-clause-home
returns-clause-home c = λ has.
    home_breaks_set c.args.encoding.now.n c.args.games.now c.requires.fit (assigned c.in_ok-home.home)
    (assigned c.in_ok-away.away)
    (assigned c.args.values.now) (assigned c.mark_home_breaks.new.values) (assigned c.mark_away_breaks.new.values)
    c.in_ok-home.ensures.told c.in_ok-away.ensures.told c.mark_home_breaks.ensures.marked
    c.mark_away_breaks.ensures.marked

pub returns-clause-away : goal.returns-clause-away
returns-clause-away c = λ has.
    away_breaks_set c.args.encoding.now.n c.args.games.now c.requires.fit (assigned c.in_ok-home.home)
    (assigned c.in_ok-away.away)
    (assigned c.args.values.now) (assigned c.mark_home_breaks.new.values) (assigned c.mark_away_breaks.new.values)
    c.in_ok-home.ensures.told c.in_ok-away.ensures.told c.mark_home_breaks.ensures.marked
    c.mark_away_breaks.ensures.marked
