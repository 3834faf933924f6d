use Rattle.std.proofs.Common.{arith, refl, sym, ◌∙◌}
use Rattle.rule_core.specs.Table.{table_counts}
use Rattle.moves.specs.Round.{round_counts}
use Rattle.walk.specs.Walked.{league_score}
use Rattle.walk.proofs.WalkLemmas.{IsFurther-same, IsNoWorse-both, kept-at, no_worse-by, no_worse-of, scores-at, standing-at, walker-in}
use Rattle.walk.proofs.walker.Walker.soften_parts.Goals as goal

pub stretches-init : goal.stretches-init
stretches-init g c = record {
  further = IsFurther-same c.args.league.now c.args.self.now c.requires.walker;
  weights = refl;
  teams = refl;
  counts = c.requires.counts;
  seen = c.requires.seen;
}

pub improve-tried-requires-clause-standing : goal.improve-tried-requires-clause-standing
improve-tried-requires-clause-standing g c =
    let board = c.stretches.self.standing.board in
    standing-at c.stretches.tally.table.n c.args.league.now.n board.phased c.args.league.now.phased _ (round_counts board)
    c.stretches.self.standing (sym (c.stretches.invariant.teams ∙ c.requires.teams))
    (sym c.stretches.invariant.further.walker.standing.phases) (sym c.stretches.invariant.counts)
    c.stretches.invariant.further.walker.standing

pub improve-tried-requires-clause-best : goal.improve-tried-requires-clause-best
improve-tried-requires-clause-best g c =
    let board = c.stretches.self.standing.board in
    kept-at c.stretches.tally.table.n c.args.league.now.n board.phased c.args.league.now.phased _
    (league_score c.args.league.now) c.stretches.self.best (sym (c.stretches.invariant.teams ∙ c.requires.teams))
    (sym c.stretches.invariant.further.walker.standing.phases)
    (sym (scores-at _ c.args.league.now c.args.tally.now.weights c.stretches.tally.weights c.requires.rules
    c.stretches.invariant.weights)) c.stretches.invariant.further.walker.best

pub improve-tried-requires-clause-seen : goal.improve-tried-requires-clause-seen
improve-tried-requires-clause-seen g c =
    no_worse-by _ c.args.league.now c.args.tally.now.weights c.stretches.tally.weights c.stretches.self.best.score
    (table_counts c.stretches.tally.table) (round_counts c.stretches.self.standing.board) c.requires.rules
    c.stretches.invariant.weights c.stretches.invariant.counts c.stretches.invariant.seen

pub tell-requires : goal.tell-requires
tell-requires g c =
    walker-in c.args.league.now c.stretches.tally.table.n c.stretches.self.standing.board.phased _ _
    (c.stretches.invariant.teams ∙ c.requires.teams) c.stretches.invariant.further.walker.standing.phases
    (scores-at _ c.args.league.now c.args.tally.now.weights c.stretches.tally.weights c.requires.rules
    c.stretches.invariant.weights) c.improve-tried.ensures.standing c.stretches.invariant.further.walker.room
    c.improve-tried.ensures.best

pub returns-then-objective-eq0-clause-further : goal.returns-then-objective-eq0-clause-further
returns-then-objective-eq0-clause-further g c = record {
  walker = walker-in c.args.league.now c.stretches.tally.table.n c.stretches.self.standing.board.phased _ _
      (c.stretches.invariant.teams ∙ c.requires.teams) c.stretches.invariant.further.walker.standing.phases
      (scores-at _ c.args.league.now c.args.tally.now.weights c.stretches.tally.weights c.requires.rules
      c.stretches.invariant.weights) c.improve-tried.ensures.standing c.stretches.invariant.further.walker.room
      c.improve-tried.ensures.best;
  no_worse = IsNoWorse-both c.improve-tried.new.best.score c.stretches.self.best.score c.args.self.now.best.score
      c.improve-tried.ensures.no_worse c.stretches.invariant.further.no_worse;
  fewer = omega (arith, c.stretches.invariant.further.fewer);
}

pub returns-then-objective-eq0-clause-seen : goal.returns-then-objective-eq0-clause-seen
returns-then-objective-eq0-clause-seen g c =
    no_worse-of _ c.args.league.now c.args.tally.now.weights c.stretches.tally.weights c.improve-tried.new.best.score
    (table_counts c.improve-tried.new.tally.table) (round_counts c.improve-tried.new.self.board) c.requires.rules
    c.stretches.invariant.weights c.improve-tried.ensures.counts c.improve-tried.ensures.seen

pub stretches-preserved : goal.stretches-preserved
stretches-preserved g c = record {
  further = record {
    walker = walker-in c.args.league.now c.stretches.tally.table.n c.stretches.self.standing.board.phased _ _
        (c.stretches.invariant.teams ∙ c.requires.teams) c.stretches.invariant.further.walker.standing.phases
        (scores-at _ c.args.league.now c.args.tally.now.weights c.stretches.tally.weights c.requires.rules
        c.stretches.invariant.weights) c.improve-tried.ensures.standing c.stretches.invariant.further.walker.room
        c.improve-tried.ensures.best;
    no_worse = IsNoWorse-both c.improve-tried.new.best.score c.stretches.self.best.score c.args.self.now.best.score
        c.improve-tried.ensures.no_worse c.stretches.invariant.further.no_worse;
    fewer = omega (arith, c.stretches.invariant.further.fewer);
  };
  weights = c.improve-tried.ensures.weights ∙ c.stretches.invariant.weights;
  teams = c.improve-tried.ensures.teams ∙ c.stretches.invariant.teams;
  counts = c.improve-tried.ensures.counts;
  seen = no_worse-of _ c.args.league.now c.args.tally.now.weights c.stretches.tally.weights
      c.improve-tried.new.best.score (table_counts c.improve-tried.new.tally.table)
      (round_counts c.improve-tried.new.self.board) c.requires.rules c.stretches.invariant.weights
      c.improve-tried.ensures.counts c.improve-tried.ensures.seen;
}
