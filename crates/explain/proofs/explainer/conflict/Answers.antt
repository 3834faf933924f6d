use Rattle.explain.specs.Conflicts.{IsDecided, IsExplanation, IsIrreducibleIfDecided}
use Rattle.explain.specs.Standings.{said_of}
use Rattle.explain.proofs.ConflictLemmas.{said_decided, said_explanation, said_irreducible, said_so}
use Rattle.explain.proofs.StandingLemmas.{first_explained}
use Rattle.explain.proofs.explainer.conflict.Goals as goal

pub narrow-requires : goal.narrow-requires
narrow-requires g c = record {
  explained = first_explained c.args.league.now c.args.conflicts (g.W.Watch.may_stop c.args.watch.now) c.in_ok-members.members.items c.args.log
      c.in_ok-members.ensures.members c.requires.small c.requires.refuted;
}

pub returns-clause-explanation : goal.returns-clause-explanation
returns-clause-explanation g c =
    said_so (IsExplanation c.args.league.now c.args.conflicts (g.W.Watch.may_stop c.args.watch.now)) c.said.result (said_of c.in_ok-least.least)
    c.said.ensures
    (said_explanation c.args.league.now c.args.conflicts (g.W.Watch.may_stop c.args.watch.now) c.in_ok-least.least c.in_ok-members.ensures.instance
    c.in_ok-least.ensures.explained c.in_ok-least.ensures.closed)

pub returns-clause-irreducible : goal.returns-clause-irreducible
returns-clause-irreducible g c =
    said_so (IsIrreducibleIfDecided c.args.league.now) c.said.result (said_of c.in_ok-least.least) c.said.ensures
    (said_irreducible c.args.league.now c.args.conflicts (g.W.Watch.may_stop c.args.watch.now) c.in_ok-least.least c.in_ok-members.ensures.instance
    c.in_ok-least.ensures.explained c.in_ok-least.ensures.closed)

pub returns-clause-decided : goal.returns-clause-decided
returns-clause-decided g c never ample =
    said_so IsDecided c.said.result (said_of c.in_ok-least.least) c.said.ensures
    (said_decided c.args.league.now c.args.conflicts (g.W.Watch.may_stop c.args.watch.now) c.in_ok-least.least c.in_ok-least.ensures.explained
    c.in_ok-least.ensures.closed never ample)
