use Rattle.std.proofs.Common.{List, [], get_or, ap, ◌∙◌}
use Rattle.league.specs.declared.game.Game.{Game}
use Rattle.season_misses.proofs.OwnLemmas.{own-read}
use Rattle.season_misses.proofs.season.Season.of_team.Goals as goal

pub returns : goal.returns
returns c =
    let season = c.args.self.now in
    c.of_team.ensures
    ∙ ap (λ (own : List (List Game)). get_or own c.args.team []) c.requires.season.own
    ∙ own-read season.cells.now.n season.games.now c.args.team c.requires.team
