use Rattle.std.proofs.Common.{List, ap, ◌∙◌}
use Rattle.league.specs.Counts.{counts_of}
use Rattle.league.specs.declared.game.Game.{Game}
use Rattle.resume.proofs.nearest.is_settled.Goals as goal

pub is_settled_at-requires-clause-counts : goal.is_settled_at-requires-clause-counts
is_settled_at-requires-clause-counts g c =
    c.in_ok-tally.ensures.counts ∙ ap (λ (games : List Game). counts_of games) c.games.ensures
