use Rattle.std.proofs.Common.{◌∙◌}
use Rattle.league.specs.Counts.{is_game}
use Rattle.resume.proofs.NearLemmas.{any-counted}
use Rattle.resume.proofs.changed.has.Goals as goal

pub returns : goal.returns
returns c =
    c.is_among.ensures
    ∙ any-counted (is_game c.args.game.home.0 c.args.game.away.0 c.args.game.slot.0) c.args.games.now
