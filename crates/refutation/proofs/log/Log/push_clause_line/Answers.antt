use Rattle.std.proofs.Common.{◌++◌, [], ◌∷◌, arith, ap, sym, ◌∙◌}
use Rattle.std.proofs.lemmas.List.{append-nil}
use Rattle.std.proofs.lemmas.List.Elements.{All-nil}
use Rattle.refutation.specs.Steps.Step.{Clause}
use Rattle.refutation.specs.Flat.{IsWhole, Lists}
use Rattle.refutation.specs.declared.log.End.{End}
use Rattle.refutation.proofs.FlatLemmas.{AreKept-pushed, IsPushed, steps_from-pushed}
use Rattle.refutation.proofs.log.Log.push_clause_line.Goals as goal

pub invariant_of-self-2 : goal.invariant_of-self-2
invariant_of-self-2 c =
    let lists : Lists = record {
      lits = c.self.inside.lits.items;
      hints = c.self.inside.hints.items;
      parts =
          c.self.inside.parts.items;
    } in
    let more : Lists = record { lits = c.in-Some.ensures.clause; hints = c.in-Some.ensures.hints; parts = [] } in
    let now : Lists = record {
      lits = c.clause_in_front.new.literals.items;
      hints =
          c.clause_in_front.new.hints.items;
      parts = c.self.inside.parts.items;
    } in
    let to : End = record { lits = c.len.result; hints = c.len-2.result; parts = c.len-3.result; divisor = 0 } in
    let whole : IsWhole now to = record {
      lits = omega (arith, c.clause_in_front.new.literals.ok);
      hints =
          omega (arith, c.clause_in_front.new.hints.ok);
      parts = omega (arith, c.self.inside.parts.ok);
    } in
    let is : IsPushed lists more now c.self.inside.ends.items c.push.new.self.items to = record {
      lits = c.in-Some.ensures.literals;
      hints = c.in-Some.ensures.numbers;
      parts = sym (append-nil _);
      added = c.in_ok-push.ensures.items ∙ ap (λ xs. xs ++ to ∷ []) c.in_ok-reserve.ensures.items;
      whole = whole;
    } in
    AreKept-pushed lists more now c.self.inside.ends.items c.push.new.self.items to c.self.invariant is (All-nil _)

pub returns : goal.returns
returns c =
    let lists : Lists = record {
      lits = c.self.inside.lits.items;
      hints = c.self.inside.hints.items;
      parts =
          c.self.inside.parts.items;
    } in
    let more : Lists = record { lits = c.in-Some.ensures.clause; hints = c.in-Some.ensures.hints; parts = [] } in
    let now : Lists = record {
      lits = c.clause_in_front.new.literals.items;
      hints =
          c.clause_in_front.new.hints.items;
      parts = c.self.inside.parts.items;
    } in
    let to : End = record { lits = c.len.result; hints = c.len-2.result; parts = c.len-3.result; divisor = 0 } in
    let whole : IsWhole now to = record {
      lits = omega (arith, c.clause_in_front.new.literals.ok);
      hints =
          omega (arith, c.clause_in_front.new.hints.ok);
      parts = omega (arith, c.self.inside.parts.ok);
    } in
    let is : IsPushed lists more now c.self.inside.ends.items c.push.new.self.items to = record {
      lits = c.in-Some.ensures.literals;
      hints = c.in-Some.ensures.numbers;
      parts = sym (append-nil _);
      added = c.in_ok-push.ensures.items ∙ ap (λ xs. xs ++ to ∷ []) c.in_ok-reserve.ensures.items;
      whole = whole;
    } in
    record {
      step = Clause c.in-Some.ensures.clause c.in-Some.ensures.hints;
      added =
          steps_from-pushed lists more now c.self.inside.ends.items c.push.new.self.items c.args.self.now to
          c.self.invariant c.self.view_is is;
      line = c.in-Some.ensures.line;
    }
