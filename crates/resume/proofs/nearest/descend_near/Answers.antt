use Rattle.std.proofs.Common.{List, ap, ◌∙◌}
use Rattle.league.specs.Counts.{counts_of}
use Rattle.league.specs.declared.game.Game.{Game}
use Rattle.resume.proofs.nearest.descend_near.Goals as goal

pub descend_from-requires-clause-counts : goal.descend_from-requires-clause-counts
descend_from-requires-clause-counts g c =
    c.in_ok-tally.ensures.counts ∙ ap (λ (games : List Game). counts_of games) c.games.ensures
