use Rattle.std.proofs.Common.{ℕ, ◌<◌, ap, subst}
use Rattle.propagate.specs.Looks.{left_of}
use Rattle.propagate.specs.Paths.{SeenPath}
use Rattle.propagate.proofs.LookLemmas.{IsGrownOver-none, IsGrownOver-trans}
use Rattle.propagate.proofs.settle.settle.Goals as goal

pub turns-init : goal.turns-init
turns-init c = record { grown = IsGrownOver-none c.args.path.now c.requires.ready.sound; trail = c.requires }

pub turns-preserved : goal.turns-preserved
turns-preserved c = record {
  grown =
      IsGrownOver-trans c.args.path.now c.turns.path c.take_turn.new.path c.turns.invariant.grown
      c.take_turn.ensures.grown;
  trail = c.take_turn.ensures.trail;
}

pub turns-smaller : goal.turns-smaller
turns-smaller c =
    subst (λ (n : ℕ). left_of c.take_turn.new.path c.take_turn.new.looked < n)
    (ap (λ (p : SeenPath). left_of p c.turns.looked) c.take_turn.ensures.grown.same) c.in-Again.ensures.came

pub returns-in-Quiet-clause-grown : goal.returns-in-Quiet-clause-grown
returns-in-Quiet-clause-grown c =
    IsGrownOver-trans c.args.path.now c.turns.path c.take_turn.new.path c.turns.invariant.grown
    c.take_turn.ensures.grown

pub returns-in-Quiet-clause-trail : goal.returns-in-Quiet-clause-trail
returns-in-Quiet-clause-trail c = c.take_turn.ensures.trail

pub returns-in-Quiet-clause-found : goal.returns-in-Quiet-clause-found
returns-in-Quiet-clause-found c = c.in-Quiet.ensures.came.0

pub returns-in-Stopped-clause-grown : goal.returns-in-Stopped-clause-grown
returns-in-Stopped-clause-grown c =
    IsGrownOver-trans c.args.path.now c.turns.path c.take_turn.new.path c.turns.invariant.grown
    c.take_turn.ensures.grown

pub returns-in-Stopped-clause-trail : goal.returns-in-Stopped-clause-trail
returns-in-Stopped-clause-trail c = c.take_turn.ensures.trail

pub returns-in-Stopped-clause-found : goal.returns-in-Stopped-clause-found
returns-in-Stopped-clause-found c = c.in-Stopped.ensures.came

pub returns-in-Quiet-clause-all : goal.returns-in-Quiet-clause-all
returns-in-Quiet-clause-all c = λ none. c.in-Quiet.ensures.came.1
