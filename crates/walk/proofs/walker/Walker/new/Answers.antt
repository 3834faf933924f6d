use Rattle.std.proofs.Common.{ℕ, ◌*◌, ◌≤◌, Bool, refl, ap, subst, sym, ◌∙◌}
use Rattle.std.specs.Prelude.{vec_capacity}
use Rattle.league.specs.Counts.{Counts, counts_of}
use Rattle.moves.specs.Round.{Round, round_counts}
use Rattle.descent.specs.Score.{IsNoWorse}
use Rattle.descent.specs.declared.score.Score.{Score}
use Rattle.descent.proofs.ScoreLemmas.{IsNoWorse-itself}
use Rattle.walk.specs.Standing.{IsStandingOn}
use Rattle.walk.specs.Walked.{league_score}
use Rattle.walk.proofs.WalkLemmas.{kept-at, round_robin-at, standing-at}
use Rattle.walk.proofs.walker.Walker.new.Goals as goal

pub new-requires-clause-round_robin : goal.new-requires-clause-round_robin
new-requires-clause-round_robin c =
    round_robin-at c.n-n.result c.args.league.now.n c.phased.result c.args.league.now.phased
    (counts_of c.args.start.now) (sym c.n-n.ensures.n) (sym c.phased.ensures) c.requires.round_robin

pub returns-clause-walker : goal.returns-clause-walker
returns-clause-walker c =
    let n : ℕ = c.args.league.now.n in
    let phased : Bool = c.args.league.now.phased in
    let board : Round = c.in_ok-standing.standing.board in
    let cost : Counts → Score = league_score c.args.league.now in
    let stands : IsStandingOn n phased (round_counts board) c.in_ok-standing.standing =
    standing-at n c.n-n.result phased c.phased.result (round_counts board) (counts_of c.args.start.now)
    c.in_ok-standing.standing c.n-n.ensures.n c.phased.ensures (sym c.in_ok-standing.ensures.standing.counts)
    c.in_ok-standing.ensures.standing in
    record {
      standing = stands;
      room = subst (λ (k : ℕ). k * k ≤ vec_capacity c.in_ok-games.games) c.n-n.ensures.n c.in_ok-games.ensures;
      best = kept-at n board.n phased board.phased cost cost c.in_ok-best.best stands.teams stands.phases refl
          c.in_ok-best.ensures.kept;
    }

pub returns-clause-score : goal.returns-clause-score
returns-clause-score c =
    let cost : Counts → Score = league_score c.args.league.now in
    c.in_ok-best.ensures.score ∙ ap (λ (m : Counts). cost m) c.in_ok-standing.ensures.standing.counts

pub returns-clause-seen : goal.returns-clause-seen
returns-clause-seen c =
    subst (λ (s : Score). IsNoWorse c.in_ok-best.best.score s) c.in_ok-best.ensures.score
    (IsNoWorse-itself c.in_ok-best.best.score)
