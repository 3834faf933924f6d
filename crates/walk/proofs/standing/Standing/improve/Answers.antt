use Rattle.std.proofs.Common.{◌≡◌, ℕ, Bool, List, refl, ap, arith, subst, sym, ◌∙◌}
use Rattle.league.specs.Counts.{Counts}
use Rattle.rule_core.specs.Table.{table_counts}
use Rattle.moves.specs.Round.{round_counts}
use Rattle.descent.specs.declared.weighted.Weighted.{Weighted}
use Rattle.descent.specs.Score.{IsNoWorse, score_on}
use Rattle.descent.specs.declared.score.Score.{Score}
use Rattle.walk.specs.Standing.{IsStandingOn}
use Rattle.descent.proofs.ScoreLemmas.{IsNoWorse-itself}
use Rattle.walk.proofs.WalkLemmas.{IsNoWorse-both, kept-in, standing-at}
use Rattle.walk.proofs.standing.Standing.improve.Goals as goal

pub draws-init : goal.draws-init
draws-init g c = record {
  weights = refl;
  teams = refl;
  standing = c.requires.standing;
  best = c.requires.best;
  no_worse = IsNoWorse-itself c.args.best.now.score;
  seen = c.requires.seen;
  within = omega arith;
  most = omega (arith, c.min-limit.ensures);
}

pub draws-preserved : goal.draws-preserved
draws-preserved g c =
    let n : ℕ = c.args.tally.now.table.n in
    let phased : Bool = c.args.self.now.board.phased in
    let cost : Counts → Score = score_on g.R.Entries c.args.tally.now.weights in
    let now : Counts = table_counts c.attempt-legal.new.tally.table in
    let rules : c.attempt-legal.new.tally.weights ≡ c.args.tally.now.weights =
    c.attempt-legal.ensures.weights ∙ c.draws.invariant.weights in
    let stands : IsStandingOn n phased now c.attempt-legal.new.self =
    standing-at n c.draws.tally.table.n phased c.draws.self.board.phased now now c.attempt-legal.new.self
    c.draws.invariant.teams c.draws.invariant.standing.phases refl c.attempt-legal.ensures.standing in
    let costs : c.of-in-draws.result ≡ cost now =
    c.of-in-draws.ensures ∙ ap (λ (w : List (Weighted g.row.R.Denot)). score_on g.R.Entries w now) rules in
    let same : c.of-in-draws.result ≡ cost (round_counts c.attempt-legal.new.self.board) =
    costs ∙ ap (λ (m : Counts). cost m) (sym stands.counts) in
    record {
      weights = rules;
      teams = c.attempt-legal.ensures.teams ∙ c.draws.invariant.teams;
      standing = stands;
      best = kept-in n c.attempt-legal.new.self.board.n phased c.attempt-legal.new.self.board.phased cost c.draws.best
          c.keep.new.self stands.teams stands.phases (c.keep.ensures.kept cost same) c.draws.invariant.best;
      no_worse = IsNoWorse-both c.keep.new.self.score c.draws.best.score c.args.best.now.score c.keep.ensures.no_worse
          c.draws.invariant.no_worse;
      seen = subst (λ (s : Score). IsNoWorse c.keep.new.self.score s) costs c.keep.ensures.beside;
      within = c.with_move-tried.ensures;
      most = c.draws.invariant.most;
    }

pub returns-then-tried-limit-clause-counts : goal.returns-then-tried-limit-clause-counts
returns-then-tried-limit-clause-counts g c = sym c.draws.invariant.standing.counts

pub returns-clause-counts : goal.returns-clause-counts
returns-clause-counts g c = sym c.draws.invariant.standing.counts
