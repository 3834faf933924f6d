use Rattle.std.proofs.Common.{◌≡◌, ℕ, ◌*◌, ◌≤◌, List, ap, arith, subst, sym, ◌∙◌}
use Rattle.league.specs.Counts.{Counts, counts_of}
use Rattle.league.specs.declared.game.Game.{Game}
use Rattle.moves.specs.Round.{round_counts}
use Rattle.descent.specs.declared.score.Score.{Score}
use Rattle.walk.specs.Walked.{league_score}
use Rattle.walk.proofs.WalkLemmas.{IsFurther-same, kept-in}
use Rattle.walk.proofs.walker.Walker.keep_lower.Goals as goal

pub returns-then-not-is_lower : goal.returns-then-not-is_lower
returns-then-not-is_lower c = IsFurther-same c.args.league.now c.args.self.now c.requires.walker

pub returns : goal.returns
returns c =
    let n : ℕ = c.args.league.now.n in
    let board = c.args.self.now.standing.board in
    let cost : Counts → Score = league_score c.args.league.now in
    let same : c.in_ok-score.score ≡ cost (round_counts board) =
    c.in_ok-score.ensures
    ∙ ap (λ (m : Counts). cost m)
    (ap (λ (games : List Game). counts_of games) c.deref.ensures.value ∙ c.copy_games.ensures.copy.counts) in
    record {
      walker = record {
        standing = c.requires.walker.standing;
        room = subst (λ (room : ℕ). n * n ≤ room) (sym c.copy_games.ensures.room) c.requires.walker.room;
        best = kept-in n board.n c.args.league.now.phased board.phased cost c.args.self.now.best c.keep.new.self
            c.requires.walker.standing.teams c.requires.walker.standing.phases (c.keep.ensures.kept cost same) c.requires.walker.best;
      };
      no_worse = c.keep.ensures.no_worse;
      fewer = omega arith;
    }
