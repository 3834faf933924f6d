use Rattle.std.proofs.Common.{◌++◌, [], ◌∷◌, arith, ap, sym, ◌∙◌}
use Rattle.std.proofs.lemmas.List.{append-nil}
use Rattle.refutation.specs.Flat.{IsWhole, Lists}
use Rattle.refutation.specs.declared.log.End.{End}
use Rattle.refutation.proofs.FlatLemmas.{AreKept-pushed, IsPushed, step_made-linear, steps_from-pushed}
use Rattle.refutation.proofs.log.Log.push_linear.Goals as goal

pub invariant_of-self-2 : goal.invariant_of-self-2
invariant_of-self-2 c =
    let lists : Lists = record {
      lits = c.self.inside.lits.items;
      hints = c.self.inside.hints.items;
      parts =
          c.self.inside.parts.items;
    } in
    let more : Lists = record { lits = []; hints = []; parts = c.args.parts.now } in
    let now : Lists = record {
      lits = c.self.inside.lits.items;
      hints = c.self.inside.hints.items;
      parts =
          c.extend_from_slice.new.self.items;
    } in
    let to : End = record {
      lits = c.len.result;
      hints = c.len-2.result;
      parts = c.len-3.result;
      divisor =
          c.args.divisor;
    } in
    let whole : IsWhole now to = record {
      lits = omega (arith, c.self.inside.lits.ok);
      hints =
          omega (arith, c.self.inside.hints.ok);
      parts = omega (arith, c.extend_from_slice.new.self.ok);
    } in
    let is : IsPushed lists more now c.self.inside.ends.items c.push.new.self.items to = record {
      lits = sym (append-nil _);
      hints = sym (append-nil _);
      parts = c.in_ok-extend_from_slice.ensures.items;
      added = c.in_ok-push.ensures.items ∙ ap (λ xs. xs ++ to ∷ []) c.in_ok-reserve.ensures.items;
      whole = whole;
    } in
    AreKept-pushed lists more now c.self.inside.ends.items c.push.new.self.items to c.self.invariant is
    c.requires.factors

pub returns-clause-ok : goal.returns-clause-ok
returns-clause-ok c =
    let lists : Lists = record {
      lits = c.self.inside.lits.items;
      hints = c.self.inside.hints.items;
      parts =
          c.self.inside.parts.items;
    } in
    let more : Lists = record { lits = []; hints = []; parts = c.args.parts.now } in
    let now : Lists = record {
      lits = c.self.inside.lits.items;
      hints = c.self.inside.hints.items;
      parts =
          c.extend_from_slice.new.self.items;
    } in
    let to : End = record {
      lits = c.len.result;
      hints = c.len-2.result;
      parts = c.len-3.result;
      divisor =
          c.args.divisor;
    } in
    let whole : IsWhole now to = record {
      lits = omega (arith, c.self.inside.lits.ok);
      hints =
          omega (arith, c.self.inside.hints.ok);
      parts = omega (arith, c.extend_from_slice.new.self.ok);
    } in
    let is : IsPushed lists more now c.self.inside.ends.items c.push.new.self.items to = record {
      lits = sym (append-nil _);
      hints = sym (append-nil _);
      parts = c.in_ok-extend_from_slice.ensures.items;
      added = c.in_ok-push.ensures.items ∙ ap (λ xs. xs ++ to ∷ []) c.in_ok-reserve.ensures.items;
      whole = whole;
    } in
    steps_from-pushed lists more now c.self.inside.ends.items c.push.new.self.items c.args.self.now to
    c.self.invariant c.self.view_is is
    ∙ ap (λ step. c.args.self.now ++ step ∷ []) (step_made-linear c.args.divisor more c.requires.divisor)
