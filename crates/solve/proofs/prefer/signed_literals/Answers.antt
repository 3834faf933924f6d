use Rattle.std.proofs.Common.{◌≤◌, List, arith, subst, sym}
use Rattle.std.specs.List.{All}
use Rattle.std.proofs.lemmas.List.Elements.{All-push}
use Rattle.rows.specs.Literals.{Literal}
use Rattle.solve.proofs.prefer.signed_literals.Goals as goal

pub loop-before-preserved : goal.loop-before-preserved
loop-before-preserved c =
    let within : c.new.result.var ≤ c.args.vars =
    subst (λ (lit : Literal). lit.var ≤ c.args.vars) (sym c.new.ensures) (omega arith) in
    subst (λ (lits : List Literal). All (λ lit. lit.var ≤ c.args.vars) lits) (sym c.in_ok-push.ensures.items)
    (All-push (λ (lit : Literal). lit.var ≤ c.args.vars) c.loop-before.lits.items _ c.loop-before.invariant within)
