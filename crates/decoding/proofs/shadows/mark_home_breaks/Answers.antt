-- The next game's break is marked beside those so far.
use Rattle.std.proofs.Common.{◌<◌, Bool, length, arith, ◌∙◌}
use Rattle.rows.specs.Values.{assigned}
use Rattle.league.specs.declared.game.Game.{Game}
use Rattle.decoding.specs.Marks.{marks_home_break}
use Rattle.decoding.proofs.MarkLemmas.{marked_more}
use Rattle.decoding.proofs.shadows.mark_home_breaks.Goals as goal

pub loop-game-preserved : goal.loop-game-preserved
loop-game-preserved c = record {
  kept = c.mark_home_break.ensures.length ∙ c.loop-game.invariant.kept;
  marked = λ v first.
      let marks : Game → Bool = marks_home_break c.args.encoding.now.n (assigned c.args.home.now) v in
      let within : c.loop-game.game-index < length c.args.games.now = omega arith in
      marked_more marks c.args.games.now c.loop-game.game-index _ _ _ _ within (c.loop-game.invariant.marked v first)
      (c.mark_home_break.ensures.marked v first);
}
