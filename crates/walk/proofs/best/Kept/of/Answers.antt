use Rattle.std.proofs.Common.{ℕ, ◌*◌, ◌≤◌, List, ap, subst, sym, ◌∙◌}
use Rattle.std.specs.Prelude.{vec_capacity}
use Rattle.league.specs.Counts.{Counts, counts_of}
use Rattle.league.specs.declared.game.Game.{Game}
use Rattle.descent.specs.declared.score.Score.{Score}
use Rattle.walk.specs.Walked.{league_score}
use Rattle.walk.proofs.best.Kept.of.Goals as goal

pub returns-clause-kept : goal.returns-clause-kept
returns-clause-kept c = record {
  room = subst (λ (n : ℕ). n * n ≤ vec_capacity c.copy_games.new.games) c.n.ensures.n
      (subst (λ (room : ℕ). c.n.result * c.n.result ≤ room) (sym c.copy_games.ensures.room) c.in_ok-games.ensures);
  few = c.copy_games.ensures.copy.few;
  fit = c.copy_games.ensures.copy.fit;
  round_robin = c.copy_games.ensures.copy.round_robin;
  score = c.in_ok-score.ensures
      ∙ ap (λ (games : List Game). league_score c.args.league.now (counts_of games)) c.deref.ensures.value;
}

pub returns-clause-score : goal.returns-clause-score
returns-clause-score c =
    let cost : Counts → Score = league_score c.args.league.now in
    c.in_ok-score.ensures
    ∙ ap (λ (m : Counts). cost m)
    (ap (λ (games : List Game). counts_of games) c.deref.ensures.value ∙ c.copy_games.ensures.copy.counts)
