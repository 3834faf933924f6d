use Rattle.std.proofs.Common.{◌≡◌, ℕ, arith, subst}
use Rattle.league.specs.Counts.{Counts}
use Rattle.rule_core.specs.Table.{table_counts}
use Rattle.moves.specs.Round.{round_counts}
use Rattle.descent.specs.Score.{IsNoWorse}
use Rattle.descent.specs.declared.score.Score.{Score}
use Rattle.walk.specs.Walked.{league_score}
use Rattle.walk.proofs.WalkLemmas.{IsNoWorse-both, kept-in, score-is}
use Rattle.walk.proofs.walker.Walker.lower_from.Goals as goal

pub returns-then-infeasibility-gt0-clause-further : goal.returns-then-infeasibility-gt0-clause-further
returns-then-infeasibility-gt0-clause-further g c =
    let n : ℕ = c.args.league.now.n in
    let board = c.args.self.now.standing.board in
    let cost : Counts → Score = league_score c.args.league.now in
    let same : c.of.result ≡ cost (round_counts board) =
    score-is _ c.args.league.now c.args.tally.now.weights c.of.result (table_counts c.args.tally.now.table)
    (round_counts board) c.requires.rules c.of.ensures c.requires.counts in
    record {
      walker = record {
        standing = c.requires.walker.standing;
        room = c.requires.walker.room;
        best = kept-in n board.n c.args.league.now.phased board.phased cost c.args.self.now.best c.keep.new.self
            c.requires.walker.standing.teams c.requires.walker.standing.phases (c.keep.ensures.kept cost same)
            c.requires.walker.best;
      };
      no_worse = c.keep.ensures.no_worse;
      fewer = omega arith;
    }

pub soften-requires-clause-walker : goal.soften-requires-clause-walker
soften-requires-clause-walker g c =
    let n : ℕ = c.args.league.now.n in
    let board = c.args.self.now.standing.board in
    let cost : Counts → Score = league_score c.args.league.now in
    let same : c.of.result ≡ cost (round_counts board) =
    score-is _ c.args.league.now c.args.tally.now.weights c.of.result (table_counts c.args.tally.now.table)
    (round_counts board) c.requires.rules c.of.ensures c.requires.counts in
    record {
      standing = c.requires.walker.standing;
      room = c.requires.walker.room;
      best = kept-in n board.n c.args.league.now.phased board.phased cost c.args.self.now.best c.keep.new.self
          c.requires.walker.standing.teams c.requires.walker.standing.phases (c.keep.ensures.kept cost same)
          c.requires.walker.best;
    }

pub returns-then-infeasibility-gt0-clause-seen : goal.returns-then-infeasibility-gt0-clause-seen
returns-then-infeasibility-gt0-clause-seen g c =
    subst (λ (s : Score). IsNoWorse c.keep.new.self.score s)
    (score-is _ c.args.league.now c.args.tally.now.weights c.of.result (table_counts c.args.tally.now.table)
    (round_counts c.args.self.now.standing.board) c.requires.rules c.of.ensures c.requires.counts)
    c.keep.ensures.beside

pub soften-requires-clause-seen : goal.soften-requires-clause-seen
soften-requires-clause-seen g c =
    subst (λ (s : Score). IsNoWorse c.keep.new.self.score s)
    (score-is _ c.args.league.now c.args.tally.now.weights c.of.result (table_counts c.args.tally.now.table)
    (round_counts c.args.self.now.standing.board) c.requires.rules c.of.ensures c.requires.counts)
    c.keep.ensures.beside

pub returns-clause-further : goal.returns-clause-further
returns-clause-further g c = record {
  walker = c.in_ok-soften.ensures.further.walker;
  no_worse = IsNoWorse-both c.soften.new.self.best.score c.keep.new.self.score c.args.self.now.best.score
      c.in_ok-soften.ensures.further.no_worse c.keep.ensures.no_worse;
  fewer = c.in_ok-soften.ensures.further.fewer;
}
