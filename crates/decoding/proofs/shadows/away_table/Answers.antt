-- A table in which nothing stood has the away games that were marked.
use Rattle.rows.specs.Values.{assigned}
use Rattle.decoding.proofs.ShadowLaw.{away_told}
use Rattle.decoding.proofs.MarkLemmas.{assigned-empty}
use Rattle.decoding.proofs.shadows.away_table.Goals as goal

pub returns-clause-told : goal.returns-clause-told
returns-clause-told c =
    away_told c.args.encoding.now.n c.args.games.now c.requires.fit (assigned c.mark_away_games.new.away)
    (assigned c.in_ok-away.away)
    (assigned-empty c.vars.result c.in_ok-away.away c.in_ok-away.ensures) c.mark_away_games.ensures.marked
