use Rattle.std.proofs.Common.{◌≤◌, ◌++◌, List, append-nil, length, ap, arith, refl, subst, sym, ◌∙◌}
use Rattle.std.specs.List.{All, flat_map}
use Rattle.std.proofs.lemmas.List.{take_all}
use Rattle.std.proofs.lemmas.List.Elements.{All-nil}
use Rattle.std.proofs.lemmas.Option.{slice_get_read}
use Rattle.rows.specs.Literals.{Literal}
use Rattle.refutation.specs.Texts.{literal_text}
use Rattle.refutation.specs.Written.{IsVariable}
use Rattle.refutation.proofs.StepLemmas.{All-got, text-got}
use Rattle.refutation.proofs.text.put_literals.Goals as goal

pub loop-lit-init : goal.loop-lit-init
loop-lit-init c = (sym (append-nil c.args.text.now.items), All-nil IsVariable)

pub loop-lit-preserved : goal.loop-lit-preserved
loop-lit-preserved c =
    let is = slice_get_read c.args.lits.now _ c.loop-lit.lit-index c.lit-item.result refl c.loop-lit-test.true
    c.lit-item.is in (
      text-got literal_text c.args.lits.now c.loop-lit.lit-index c.lit-item.result c.loop-lit.text.items
          c.put_literal.new.text.items c.args.text.now.items is c.in_ok-put_literal.ensures.ok c.loop-lit.invariant.0,
      All-got IsVariable c.args.lits.now c.loop-lit.lit-index c.lit-item.result is c.loop-lit.invariant.1
          c.in_ok-put_literal.ensures.variable,
    )

pub returns-clause-ok : goal.returns-clause-ok
returns-clause-ok c =
    let past : length c.args.lits.now ≤ c.loop-lit.lit-index = omega arith in
    c.loop-lit.invariant.0
    ∙ ap (λ (ls : List Literal). c.args.text.now.items ++ flat_map literal_text ls)
    (take_all c.loop-lit.lit-index c.args.lits.now past)

pub returns-clause-variables : goal.returns-clause-variables
returns-clause-variables c =
    let past : length c.args.lits.now ≤ c.loop-lit.lit-index = omega arith in
    subst (All IsVariable) (take_all c.loop-lit.lit-index c.args.lits.now past) c.loop-lit.invariant.1
