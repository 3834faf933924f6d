use Rattle.std.proofs.Common.{ℕ, ◌+◌, ◌++◌, List, Err, Ok, drop, take, arith, ap, subst, sym}
use Rattle.std.specs.List.{All}
use Rattle.std.proofs.lemmas.List.{take_all}
use Rattle.std.proofs.lemmas.List.Elements.{All-nil}
use Rattle.rows.specs.declared.lit.Term.{Term}
use Rattle.std.proofs.lemmas.Result.{err_from_is_err_and}
use Rattle.opb_forms.specs.Systems.{IsSmallTerm}
use Rattle.opb_forms.specs.Texts.{term_text, terms_text}
use Rattle.opb_forms.proofs.StreamLemmas.{All-next, Sends-exit, Sends-none, Sends-same, Sends-then, text-more, text-parts}
use Rattle.opb_forms.proofs.rows_out.put_terms.Goals as goal

pub loop-term-init : goal.loop-term-init
loop-term-init g c = record {
  sent = Sends-none g.K.Sink c.args.sink.now c.args.waiting.now;
  small = All-nil IsSmallTerm;
}

pub loop-term-preserved : goal.loop-term-preserved
loop-term-preserved g c =
    let terms : List Term = c.args.terms.now in
    let k : ℕ = c.loop-term.term-index in
    let t : Term = c.term-item.result in
    record {
      sent = Sends-same g.K.Sink c.args.sink.now c.put_term.new.sink c.args.waiting.now c.put_term.new.waiting
          (terms_text (take k terms) ++ term_text t) (terms_text (take (k + 1) terms)) (Ok tt)
          (sym (text-more term_text terms k t c.loop-term-test.true c.term-item.is))
          (Sends-then g.K.Sink c.args.sink.now c.loop-term.sink c.put_term.new.sink c.args.waiting.now c.loop-term.waiting
          c.put_term.new.waiting (terms_text (take k terms)) (term_text t) (Ok tt) c.loop-term.invariant.sent
          c.in_ok-put_term.ensures.sends);
      small = All-next IsSmallTerm terms k t c.loop-term-test.true c.term-item.is c.loop-term.invariant.small
          c.in_ok-put_term.ensures.small;
    }

pub returns-in_err-put_term-clause-sends : goal.returns-in_err-put_term-clause-sends
returns-in_err-put_term-clause-sends g c =
    let p = err_from_is_err_and c.from_residual.result c.from_residual.ensures.1 in
    let terms : List Term = c.args.terms.now in
    let k : ℕ = c.loop-term.term-index in
    let t : Term = c.term-item.result in
    Sends-same g.K.Sink c.args.sink.now c.put_term.new.sink c.args.waiting.now c.put_term.new.waiting
    ((terms_text (take k terms) ++ term_text t) ++ terms_text (drop (k + 1) terms)) (terms_text terms) c.from_residual.result
    (text-parts term_text terms k t c.loop-term-test.true c.term-item.is)
    (Sends-exit g.K.Sink c.args.sink.now c.put_term.new.sink c.args.waiting.now c.put_term.new.waiting
    c.put_term.new.waiting (terms_text (take k terms) ++ term_text t) (terms_text (drop (k + 1) terms))
    c.in_err-put_term.field-0.0 c.from_residual.result p.0 p.1
    (Sends-then g.K.Sink c.args.sink.now c.loop-term.sink c.put_term.new.sink c.args.waiting.now c.loop-term.waiting
    c.put_term.new.waiting (terms_text (take k terms)) (term_text t) (Err c.in_err-put_term.field-0.0)
    c.loop-term.invariant.sent c.in_err-put_term.ensures.sends))

pub returns-clause-sends : goal.returns-clause-sends
returns-clause-sends g c =
    Sends-same g.K.Sink c.args.sink.now c.loop-term.sink c.args.waiting.now c.loop-term.waiting
    (terms_text (take c.loop-term.term-index c.args.terms.now)) (terms_text c.args.terms.now) (Ok tt)
    (ap terms_text (take_all c.loop-term.term-index c.args.terms.now (omega arith))) c.loop-term.invariant.sent

pub returns-clause-small : goal.returns-clause-small
returns-clause-small g c =
    subst (All IsSmallTerm) (take_all c.loop-term.term-index c.args.terms.now (omega arith)) c.loop-term.invariant.small
