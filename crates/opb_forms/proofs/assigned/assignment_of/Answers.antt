use Rattle.std.proofs.Common.{Bool, false, ap, arith, length, sym, ◌∙◌, ◌==◌}
use Rattle.std.specs.Prelude.{if◌then◌else◌}
use Rattle.std.proofs.lemmas.List.{length-replicate, take_all}
use Rattle.rows.specs.Literals.{Literal}
use Rattle.opb_forms.specs.Values.{value_in}
use Rattle.opb_forms.proofs.ValueLemmas.{assigned-none, value_in-more}
use Rattle.opb_forms.proofs.assigned.assignment_of.Goals as goal

pub loop-lit-init : goal.loop-lit-init
loop-lit-init c = record {
  length = ap length c.in_ok-values.ensures ∙ length-replicate c.args.vars false;
  values = λ v least most. assigned-none c.in_ok-values.values c.args.vars v c.in_ok-values.ensures;
}

pub loop-lit-preserved : goal.loop-lit-preserved
loop-lit-preserved c =
    let l : Literal = c.lit-item.result in
    record {
      length = c.set_if_within.ensures.length;
      values = λ v least most.
          c.set_if_within.ensures.values v least most
          ∙ ap (λ (b : Bool). if l.var == v then l.positive else b) (c.loop-lit.invariant.values v least most)
          ∙ sym (value_in-more c.args.lits.now c.loop-lit.lit-index l v c.loop-lit-test.true c.lit-item.is);
    }

pub returns-clause-values : goal.returns-clause-values
returns-clause-values c = λ v least most.
    c.loop-lit.invariant.values v least most
    ∙ ap (λ lits. value_in lits v) (take_all c.loop-lit.lit-index c.args.lits.now (omega arith))
