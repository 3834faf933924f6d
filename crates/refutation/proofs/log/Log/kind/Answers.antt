use Rattle.std.proofs.Common.{arith, sym, ◌∙◌}
use Rattle.refutation.specs.Flat.{Lists}
use Rattle.refutation.proofs.FlatLemmas.{found, kind-read, length-kept}
use Rattle.refutation.proofs.log.Log.kind.Goals as goal

pub ends_of-requires : goal.ends_of-requires
ends_of-requires c =
    let lists : Lists = record {
      lits = c.self.inside.lits.items;
      hints = c.self.inside.hints.items;
      parts =
          c.self.inside.parts.items;
    } in
    omega (
      arith,
      length-kept lists c.self.inside.ends.items c.args.self.now c.self.view_is,
      c.self.inside.ends.ok,
      c.deref.ensures.len,
    )

pub returns : goal.returns
returns c =
    let lists : Lists = record {
      lits = c.self.inside.lits.items;
      hints = c.self.inside.hints.items;
      parts =
          c.self.inside.parts.items;
    } in
    let at =
    found lists c.self.inside.ends.items c.deref.result.now c.args.self.now c.args.k c.ends_of.result.0
    c.ends_of.result.1
    c.self.invariant c.self.view_is c.deref.ensures.value c.ends_of.ensures.from c.ends_of.ensures.to in
    c.kind_ending.ensures ∙ sym (kind-read lists c.args.self.now c.args.k c.ends_of.result.0 c.ends_of.result.1 at)
