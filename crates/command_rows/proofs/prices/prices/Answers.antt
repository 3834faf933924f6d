use Rattle.std.proofs.Common.{◌≡◌, ◌≤◌, List, arith, ap, map, subst, sym, take, ◌∙◌}
use Rattle.std.proofs.lemmas.List.{take_all}
use Rattle.std.proofs.lemmas.List.Elements.{All-map}
use Rattle.std.specs.List.{All}
use Rattle.rows.specs.declared.lit.Term.{Term}
use Rattle.command_rows.specs.Rowed.{turned}
use Rattle.command_rows.proofs.prices.prices.Goals as goal

pub returns-clause-coefs : goal.returns-clause-coefs
returns-clause-coefs c =
    let terms : List Term = c.costs-terms.result.now in
    let whole : take c.loop-term.term-index terms ≡ terms = take_all c.loop-term.term-index terms (omega arith) in
    subst (λ (ts : List Term). All (λ t. 1 ≤ t.coef) ts)
    (sym (c.loop-term.invariant ∙ ap (λ (ts : List Term). map turned ts) whole))
    (All-map (λ (t : Term). 1 ≤ t.coef) turned terms c.costs-terms.ensures.coefs)
