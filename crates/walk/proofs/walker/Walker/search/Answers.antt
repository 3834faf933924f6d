use Rattle.walk.proofs.WalkLemmas.{IsFurther-both, IsFurther-same}
use Rattle.walk.proofs.walker.Walker.search.Goals as goal

pub searches-init : goal.searches-init
searches-init g c = record {
  further = IsFurther-same c.args.league.now c.args.self.now c.requires.walker;
  seen = c.requires.seen;
}

pub searches-preserved : goal.searches-preserved
searches-preserved g c = record {
  further = IsFurther-both c.args.league.now c.args.self.now.best.score c.args.self.now.left c.searches.self
      c.search_once.new.self c.searches.invariant.further c.in_ok-search_once.ensures.further;
  seen = c.in_ok-search_once.ensures.seen;
}

pub returns-then-is_over-clause-further : goal.returns-then-is_over-clause-further
returns-then-is_over-clause-further g c =
    IsFurther-both c.args.league.now c.args.self.now.best.score c.args.self.now.left c.searches.self
    c.search_once.new.self c.searches.invariant.further c.in_ok-search_once.ensures.further
