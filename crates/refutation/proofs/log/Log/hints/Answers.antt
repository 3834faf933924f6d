use Rattle.std.proofs.Common.{arith, ap, length, ◌∙◌}
use Rattle.std.specs.Prelude.{slice_range}
use Rattle.refutation.specs.Flat.{Lists}
use Rattle.refutation.proofs.FlatLemmas.{found, length-kept, hints-read}
use Rattle.refutation.proofs.log.Log.hints.Goals as goal

pub ends_of-requires : goal.ends_of-requires
ends_of-requires c =
    let lists : Lists = record {
      lits = c.self.inside.lits.items;
      hints = c.self.inside.hints.items;
      parts =
          c.self.inside.parts.items;
    } in
    omega (
      arith,
      length-kept lists c.self.inside.ends.items c.args.self.now c.self.view_is,
      c.self.inside.ends.ok,
      c.deref.ensures.len,
    )

pub items_between-requires-clause-order : goal.items_between-requires-clause-order
items_between-requires-clause-order c =
    let lists : Lists = record {
      lits = c.self.inside.lits.items;
      hints = c.self.inside.hints.items;
      parts =
          c.self.inside.parts.items;
    } in
    let at =
    found lists c.self.inside.ends.items c.deref.result.now c.args.self.now c.args.k c.ends_of.result.0
    c.ends_of.result.1
    c.self.invariant c.self.view_is c.deref.ensures.value c.ends_of.ensures.from c.ends_of.ensures.to in
    at.order.hints

pub items_between-requires-clause-within : goal.items_between-requires-clause-within
items_between-requires-clause-within c =
    let lists : Lists = record {
      lits = c.self.inside.lits.items;
      hints = c.self.inside.hints.items;
      parts =
          c.self.inside.parts.items;
    } in
    let at =
    found lists c.self.inside.ends.items c.deref.result.now c.args.self.now c.args.k c.ends_of.result.0
    c.ends_of.result.1
    c.self.invariant c.self.view_is c.deref.ensures.value c.ends_of.ensures.from c.ends_of.ensures.to in
    omega (arith, at.inside.hints, ap length c.deref-2.ensures.value)

pub returns : goal.returns
returns c =
    let lists : Lists = record {
      lits = c.self.inside.lits.items;
      hints = c.self.inside.hints.items;
      parts =
          c.self.inside.parts.items;
    } in
    let at =
    found lists c.self.inside.ends.items c.deref.result.now c.args.self.now c.args.k c.ends_of.result.0
    c.ends_of.result.1
    c.self.invariant c.self.view_is c.deref.ensures.value c.ends_of.ensures.from c.ends_of.ensures.to in
    c.items_between.ensures ∙ ap (λ xs. slice_range xs c.ends_of.result.0.hints c.ends_of.result.1.hints)
    c.deref-2.ensures.value
    ∙ hints-read lists c.args.self.now c.args.k c.ends_of.result.0 c.ends_of.result.1 at c.requires.kind
