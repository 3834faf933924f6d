use Rattle.std.proofs.Common.{◌++◌, [], ◌∷◌, arith, ap, sym, ◌∙◌}
use Rattle.std.proofs.lemmas.List.{append-nil}
use Rattle.refutation.specs.Steps.Step.{Linear}
use Rattle.refutation.specs.Flat.{IsWhole, Lists}
use Rattle.refutation.specs.declared.log.End.{End}
use Rattle.refutation.proofs.FlatLemmas.{AreKept-pushed, IsPushed, step_made-linear, steps_from-pushed}
use Rattle.refutation.proofs.log.Log.push_linear_line.Goals as goal

pub invariant_of-self-2 : goal.invariant_of-self-2
invariant_of-self-2 c =
    let lists : Lists = record {
      lits = c.self.inside.lits.items;
      hints = c.self.inside.hints.items;
      parts =
          c.self.inside.parts.items;
    } in
    let more : Lists = record { lits = []; hints = []; parts = c.in-Some.ensures.parts } in
    let now : Lists = record {
      lits = c.self.inside.lits.items;
      hints = c.self.inside.hints.items;
      parts =
          c.linear_in_front.new.parts.items;
    } in
    let to : End = record {
      lits = c.len.result;
      hints = c.len-2.result;
      parts = c.len-3.result;
      divisor =
          c.in-Some.found.0;
    } in
    let whole : IsWhole now to = record {
      lits = omega (arith, c.self.inside.lits.ok);
      hints =
          omega (arith, c.self.inside.hints.ok);
      parts = omega (arith, c.linear_in_front.new.parts.ok);
    } in
    let is : IsPushed lists more now c.self.inside.ends.items c.push.new.self.items to = record {
      lits = sym (append-nil _);
      hints = sym (append-nil _);
      parts = c.in-Some.ensures.added;
      added = c.in_ok-push.ensures.items ∙ ap (λ xs. xs ++ to ∷ []) c.in_ok-reserve.ensures.items;
      whole = whole;
    } in
    AreKept-pushed lists more now c.self.inside.ends.items c.push.new.self.items to c.self.invariant is
    c.in-Some.ensures.factors

pub returns : goal.returns
returns c =
    let lists : Lists = record {
      lits = c.self.inside.lits.items;
      hints = c.self.inside.hints.items;
      parts =
          c.self.inside.parts.items;
    } in
    let more : Lists = record { lits = []; hints = []; parts = c.in-Some.ensures.parts } in
    let now : Lists = record {
      lits = c.self.inside.lits.items;
      hints = c.self.inside.hints.items;
      parts =
          c.linear_in_front.new.parts.items;
    } in
    let to : End = record {
      lits = c.len.result;
      hints = c.len-2.result;
      parts = c.len-3.result;
      divisor =
          c.in-Some.found.0;
    } in
    let whole : IsWhole now to = record {
      lits = omega (arith, c.self.inside.lits.ok);
      hints =
          omega (arith, c.self.inside.hints.ok);
      parts = omega (arith, c.linear_in_front.new.parts.ok);
    } in
    let is : IsPushed lists more now c.self.inside.ends.items c.push.new.self.items to = record {
      lits = sym (append-nil _);
      hints = sym (append-nil _);
      parts = c.in-Some.ensures.added;
      added = c.in_ok-push.ensures.items ∙ ap (λ xs. xs ++ to ∷ []) c.in_ok-reserve.ensures.items;
      whole = whole;
    } in
    record {
      step = Linear c.in-Some.ensures.parts c.in-Some.found.0;
      added =
          steps_from-pushed lists more now c.self.inside.ends.items c.push.new.self.items c.args.self.now to
          c.self.invariant c.self.view_is is
          ∙ ap (λ step. c.args.self.now ++ step ∷ [])
          (step_made-linear c.in-Some.found.0 more c.in-Some.ensures.least);
      line = c.in-Some.ensures.line;
    }
