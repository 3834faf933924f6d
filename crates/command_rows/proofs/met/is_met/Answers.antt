use Rattle.std.proofs.Common.{◌≤◌, List, arith, ap, length, subst, sym, take, ◌∙◌}
use Rattle.std.specs.Prelude.{nat_le}
use Rattle.std.proofs.lemmas.List.{take_all}
use Rattle.std.proofs.lemmas.List.Elements.{All-get_or}
use Rattle.rows.specs.Rows.{weight}
use Rattle.rows.specs.Values.{assigned}
use Rattle.rows.specs.declared.lit.Term.{Term}
use Rattle.command_rows.proofs.MetLemmas.{left-more, none-left}
use Rattle.command_rows.proofs.met.is_met.Goals as goal

pub counted-requires : goal.counted-requires
counted-requires c =
    let t : Term = c.term-item.result in
    (subst (λ (u : Term). (1 ≤ u.lit.var) × (u.lit.var ≤ length c.args.values.now)) (sym c.term-item.is)
    (All-get_or (λ (u : Term). (1 ≤ u.lit.var) × (u.lit.var ≤ length c.args.values.now)) c.args.terms.now
    c.loop-term.term-index t c.loop-term-test.true c.requires)).1

pub loop-term-preserved : goal.loop-term-preserved
loop-term-preserved c =
    left-more (assigned c.args.values.now) c.args.terms.now c.loop-term.term-index c.term-item.result c.args.degree
    c.loop-term.left c.saturating_sub-left.result c.loop-term-test.true c.term-item.is c.loop-term.invariant
    (omega (arith, c.saturating_sub-left.ensures, c.counted.ensures))

pub returns : goal.returns
returns c =
    none-left c.loop-term.left c.args.degree (weight (assigned c.args.values.now) (take c.loop-term.term-index c.args.terms.now))
    c.loop-term.invariant
    ∙ ap (λ (terms : List Term). nat_le c.args.degree (weight (assigned c.args.values.now) terms))
    (take_all c.loop-term.term-index c.args.terms.now (omega arith))
