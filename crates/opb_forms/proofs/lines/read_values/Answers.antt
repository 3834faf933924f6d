use Rattle.std.proofs.Common.{◌≡◌, ℕ, ◌+◌, [], List, Ok, drop, take, length, arith, ap, subst, sym, ◌∙◌}
use Rattle.std.proofs.lemmas.List.{length-drop, take_rest}
use Rattle.std.proofs.lemmas.Result.{err_from_is_err_and}
use Rattle.opb_forms.specs.Values.{said_by_line, said_from}
use Rattle.opb_forms.proofs.SaidLemmas.{Lits, Said, SaysFault-stop, after-added, in_front, in_front-none, last-added}
use Rattle.opb_forms.proofs.SaidLemmas.{lines-alone, lines-found, lines_of}
use Rattle.opb_forms.proofs.lines.read_values.Goals as goal

pub lines-init : goal.lines-init
lines-init c = record {
  said = ap (λ (lits : Lits). in_front lits (said_from 1 (lines_of c.args.bytes.now))) c.new-lits.ensures.items
      ∙ in_front-none (said_from 1 (lines_of c.args.bytes.now));
  line = omega arith;
  least = omega arith;
}

pub lines-preserved : goal.lines-preserved
lines-preserved c =
    let rest : List ℕ = c.lines.rest.now in
    let at : ℕ = c.in-Some.at in
    let left : List ℕ = drop (at + 1) rest in
    let mid : Lits = c.lines.lits.items in
    let new : Lits = c.add_numbered.new.lits.items in
    let whole : Said = said_from 1 (lines_of c.args.bytes.now) in
    record {
      said = subst (λ (b : List ℕ). in_front new (said_from (c.lines.line + 1) (lines_of b)) ≡ whole)
          (sym (take_rest rest (at + 1)))
          (after-added mid new (said_by_line (take at rest)) c.lines.line (said_from (c.lines.line + 1) (lines_of left))
          c.in_ok-add_numbered.ensures
          ∙ ap (in_front mid) (sym (lines-found c.lines.line rest at c.in-Some.ensures))
          ∙ c.lines.invariant.said);
      line = omega (
        arith,
        c.lines.invariant.line,
        length-drop (at + 1) rest,
        ap length (take_rest rest (at + 1)),
        c.in-Some.ensures.0.high,
      );
      least = omega arith;
    }

pub add_numbered-requires-2 : goal.add_numbered-requires-2
add_numbered-requires-2 c = omega (arith, c.lines.invariant.line, c.lines.invariant.least, c.requires)

pub returns-in_err-add_numbered : goal.returns-in_err-add_numbered
returns-in_err-add_numbered c =
    let rest : List ℕ = c.lines.rest.now in
    let at : ℕ = c.in-Some.at in
    let left : List ℕ = drop (at + 1) rest in
    let p = err_from_is_err_and c.from_residual.result c.from_residual.ensures.1 in
    rw (p.1, p.2)
    (SaysFault-stop c.lines.lits.items c.add_numbered.new.lits.items (said_from 1 (lines_of c.args.bytes.now))
    (said_by_line (take at rest)) c.lines.line (said_from (c.lines.line + 1) (lines_of left))
    c.in_err-add_numbered.field-0.0
    (ap (in_front c.lines.lits.items) (sym (lines-found c.lines.line rest at c.in-Some.ensures))
    ∙ c.lines.invariant.said)
    c.in_err-add_numbered.ensures)

pub returns-in_err-add_numbered-2 : goal.returns-in_err-add_numbered-2
returns-in_err-add_numbered-2 c =
    let rest : List ℕ = c.lines.rest.now in
    let none : Said = Ok [] in
    let p = err_from_is_err_and c.from_residual-in_err-add_numbered-2.result c.from_residual-in_err-add_numbered-2.ensures.1 in
    rw (p.1, p.2)
    (SaysFault-stop c.lines.lits.items c.add_numbered-2.new.lits.items (said_from 1 (lines_of c.args.bytes.now))
    (said_by_line rest) c.lines.line none c.in_err-add_numbered-2.field-0.0
    (ap (in_front c.lines.lits.items) (sym (lines-alone c.lines.line rest c.in_default.ensures))
    ∙ c.lines.invariant.said)
    c.in_err-add_numbered-2.ensures)

pub returns : goal.returns
returns c =
    let rest : List ℕ = c.lines.rest.now in
    sym c.lines.invariant.said
    ∙ ap (in_front c.lines.lits.items) (lines-alone c.lines.line rest c.in_default.ensures)
    ∙ last-added c.lines.lits.items c.add_numbered-2.new.lits.items (said_by_line rest) c.lines.line
    c.in_ok-add_numbered-2.ensures
