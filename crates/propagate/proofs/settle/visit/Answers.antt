use Rattle.std.proofs.Common.{◌+◌, ap, arith, refl, sym, ◌∙◌, []}
use Rattle.std.proofs.lemmas.Option.{get_or_from_slice_get}
use Rattle.rows.specs.Literals.{negate}
use Rattle.propagate.specs.declared.entry.Entry.{Entry}
use Rattle.propagate.proofs.BackedLemmas.{IsWatching-grown}
use Rattle.propagate.proofs.LookLemmas.{IsGrownOver-trans, IsReady-grown}
use Rattle.propagate.proofs.TrailLemmas.{IsTrail-visited}
use Rattle.propagate.proofs.WalkLemmas.{falsified_grown}
use Rattle.propagate.proofs.settle.visit.Goals as goal

pub returns-in-Some-clause-trail : goal.returns-in-Some-clause-trail
returns-in-Some-clause-trail c = record {
  ready = IsReady-grown c.args.path.now c.walk.new.path c.args.looked c.requires.trail.ready c.walk.ensures.grown;
  watching = c.walk.ensures.watching;
}

pub visit_rows-requires-clause-ready : goal.visit_rows-requires-clause-ready
visit_rows-requires-clause-ready c =
    IsReady-grown c.args.path.now c.walk.new.path c.args.looked c.requires.trail.ready c.walk.ensures.grown

pub visit_rows-requires-clause-falsified : goal.visit_rows-requires-clause-falsified
visit_rows-requires-clause-falsified c =
    falsified_grown c.args.path.now c.walk.new.path c.args.looked.entries c.negate-falsified.result c.requires.there
    c.walk.ensures.grown
    (λ d. ap (λ (e : Entry). negate e.lit)
    (get_or_from_slice_get c.args.path.now.entries c.args.looked.entries c.entry.result d c.entry.ensures)
    ∙ sym c.negate-falsified.ensures)

pub returns-clause-grown : goal.returns-clause-grown
returns-clause-grown c =
    IsGrownOver-trans c.args.path.now c.walk.new.path c.visit_rows.new.path c.walk.ensures.grown
    c.visit_rows.ensures.grown

pub returns-clause-trail : goal.returns-clause-trail
returns-clause-trail c = record {
  ready = c.visit_rows.ensures.ready;
  watching =
      IsWatching-grown c.walk.new.path c.visit_rows.new.path c.walk.new.watches [] c.args.looked.entries
      c.walk.ensures.watching (omega (arith, c.requires.there, c.walk.ensures.grown.grown.longer))
      c.visit_rows.ensures.grown;
}

pub returns-clause-visited : goal.returns-clause-visited
returns-clause-visited c = λ none rows at_most hung.
    IsTrail-visited c.visit_rows.new.path c.walk.new.watches c.args.looked rows c.visit_rows.ensures.ready
    (IsWatching-grown c.walk.new.path c.visit_rows.new.path c.walk.new.watches [] (c.args.looked.entries + 1)
    (c.in_default.ensures.visited refl)
    (omega (arith, c.requires.there, c.walk.ensures.grown.grown.longer)) c.visit_rows.ensures.grown)
    (omega (arith, c.requires.there, c.walk.ensures.grown.grown.longer, c.visit_rows.ensures.grown.grown.longer))
    (c.visit_rows.ensures.visited none) at_most hung

pub entry-requires : goal.entry-requires
entry-requires c = c.requires.there

pub walk-requires-clause-sound : goal.walk-requires-clause-sound
walk-requires-clause-sound c = c.requires.trail.ready.sound

pub walk-requires-clause-falsified : goal.walk-requires-clause-falsified
walk-requires-clause-falsified c = λ d.
    ap (λ (e : Entry). negate e.lit)
    (get_or_from_slice_get c.args.path.now.entries c.args.looked.entries c.entry.result d c.entry.ensures)
    ∙ sym c.negate-falsified.ensures

pub returns-in-Some-clause-grown : goal.returns-in-Some-clause-grown
returns-in-Some-clause-grown c = c.walk.ensures.grown

pub returns-in-Some-clause-conflict : goal.returns-in-Some-clause-conflict
returns-in-Some-clause-conflict c = c.in-Some.ensures.conflict

pub returns-clause-conflict : goal.returns-clause-conflict
returns-clause-conflict c = c.visit_rows.ensures.conflict
