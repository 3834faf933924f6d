use Rattle.std.proofs.Common.{◌++◌, [], ◌∷◌, arith, ap, sym, ◌∙◌}
use Rattle.std.proofs.lemmas.List.{append-nil}
use Rattle.std.proofs.lemmas.List.Elements.{All-nil}
use Rattle.refutation.specs.Flat.{IsWhole, Lists}
use Rattle.refutation.specs.declared.log.End.{End}
use Rattle.refutation.proofs.FlatLemmas.{AreKept-pushed, IsPushed, steps_from-pushed}
use Rattle.refutation.proofs.log.Log.push.Goals as goal

pub invariant_of-self-2 : goal.invariant_of-self-2
invariant_of-self-2 c =
    let lists : Lists = record {
      lits = c.self.inside.lits.items;
      hints = c.self.inside.hints.items;
      parts =
          c.self.inside.parts.items;
    } in
    let more : Lists = record { lits = c.args.clause.now; hints = c.args.hints.now; parts = [] } in
    let now : Lists = record {
      lits = c.extend_from_slice-2.new.self.items;
      hints =
          c.extend_from_slice.new.self.items;
      parts = c.self.inside.parts.items;
    } in
    let to : End = record { lits = c.len.result; hints = c.len-2.result; parts = c.len-3.result; divisor = 0 } in
    let whole : IsWhole now to = record {
      lits = omega (arith, c.extend_from_slice-2.new.self.ok);
      hints =
          omega (arith, c.extend_from_slice.new.self.ok);
      parts = omega (arith, c.self.inside.parts.ok);
    } in
    let is : IsPushed lists more now c.self.inside.ends.items c.push.new.self.items to = record {
      lits = c.in_ok-extend_from_slice-2.ensures.items
          ∙ ap (λ xs. xs ++ c.args.clause.now) c.in_ok-reserve-2.ensures.items;
      hints = c.in_ok-extend_from_slice.ensures.items;
      parts = sym (append-nil _);
      added = c.in_ok-push.ensures.items ∙ ap (λ xs. xs ++ to ∷ []) c.in_ok-reserve.ensures.items;
      whole = whole;
    } in
    AreKept-pushed lists more now c.self.inside.ends.items c.push.new.self.items to c.self.invariant is (All-nil _)

pub returns-clause-ok : goal.returns-clause-ok
returns-clause-ok c =
    let lists : Lists = record {
      lits = c.self.inside.lits.items;
      hints = c.self.inside.hints.items;
      parts =
          c.self.inside.parts.items;
    } in
    let more : Lists = record { lits = c.args.clause.now; hints = c.args.hints.now; parts = [] } in
    let now : Lists = record {
      lits = c.extend_from_slice-2.new.self.items;
      hints =
          c.extend_from_slice.new.self.items;
      parts = c.self.inside.parts.items;
    } in
    let to : End = record { lits = c.len.result; hints = c.len-2.result; parts = c.len-3.result; divisor = 0 } in
    let whole : IsWhole now to = record {
      lits = omega (arith, c.extend_from_slice-2.new.self.ok);
      hints =
          omega (arith, c.extend_from_slice.new.self.ok);
      parts = omega (arith, c.self.inside.parts.ok);
    } in
    let is : IsPushed lists more now c.self.inside.ends.items c.push.new.self.items to = record {
      lits = c.in_ok-extend_from_slice-2.ensures.items
          ∙ ap (λ xs. xs ++ c.args.clause.now) c.in_ok-reserve-2.ensures.items;
      hints = c.in_ok-extend_from_slice.ensures.items;
      parts = sym (append-nil _);
      added = c.in_ok-push.ensures.items ∙ ap (λ xs. xs ++ to ∷ []) c.in_ok-reserve.ensures.items;
      whole = whole;
    } in
    steps_from-pushed lists more now c.self.inside.ends.items c.push.new.self.items c.args.self.now to
    c.self.invariant c.self.view_is is
