use Rattle.std.proofs.Common.{ℕ, ◌*◌, ◌≤◌, ap, subst, sym, ◌∙◌}
use Rattle.league.specs.Counts.{Counts}
use Rattle.walk.proofs.best.Kept.keep.Goals as goal

pub returns-then-is_lower-clause-kept : goal.returns-then-is_lower-clause-kept
returns-then-is_lower-clause-kept c cost same kept = record {
  room = subst (λ (room : ℕ). c.args.board.now.n * c.args.board.now.n ≤ room) (sym c.copy_games.ensures.room)
      c.requires.room;
  few = c.copy_games.ensures.copy.few;
  fit = c.copy_games.ensures.copy.fit;
  round_robin = c.copy_games.ensures.copy.round_robin;
  score = same ∙ ap (λ (m : Counts). cost m) (sym c.copy_games.ensures.copy.counts);
}
