-- A table in which nothing stood has the home games that were marked.
use Rattle.rows.specs.Values.{assigned}
use Rattle.decoding.proofs.ShadowLaw.{home_told}
use Rattle.decoding.proofs.MarkLemmas.{assigned-empty}
use Rattle.decoding.proofs.shadows.home_table.Goals as goal

pub returns-clause-told : goal.returns-clause-told
returns-clause-told c =
    home_told c.args.encoding.now.n c.args.games.now c.requires.fit (assigned c.mark_home_games.new.values)
    (assigned c.in_ok-home.home)
    (assigned-empty c.vars.result c.in_ok-home.home c.in_ok-home.ensures) c.mark_home_games.ensures.marked
