use Rattle.std.proofs.Common.{List, arith, ap, ◌∙◌}
use Rattle.league.specs.Counts.{Counts, counts_of}
use Rattle.league.specs.declared.game.Game.{Game}
use Rattle.example_calls.proofs.canonical.tallied.show_moves.Goals as goal

-- the tally and the board have the games of the season
pub show_tried-requires-clause-same : goal.show_tried-requires-clause-same
show_tried-requires-clause-same c i j s =
    ap (λ (m : Counts). m i j s) (c.in_ok-tally.ensures.counts ∙ ap (λ (games : List Game). counts_of games) c.games.ensures)
    ∙ c.requires.same i j s

pub show_weighed-requires-clause-there : goal.show_weighed-requires-clause-there
show_weighed-requires-clause-there c i j s = omega (
  arith,
  c.is_legal.ensures.there c.if-is_legal.true i j s,
  c.requires.same i j s,
  ap (λ (m : Counts). m i j s) (c.in_ok-tally.ensures.counts ∙ ap (λ (games : List Game). counts_of games) c.games.ensures),
)
