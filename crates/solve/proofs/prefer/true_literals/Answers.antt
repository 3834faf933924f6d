use Rattle.std.proofs.Common.{◌≤◌, List, Vec, Global, arith, subst, sym}
use Rattle.std.specs.List.{All}
use Rattle.std.proofs.lemmas.List.Elements.{All-push}
use Rattle.rows.specs.Literals.{Literal}
use Rattle.solve.proofs.prefer.true_literals.Goals as goal
use Rattle.solve.proofs.prefer.true_literals.Goals.{then-value+in_ok-push, else-value}

pub loop-before-preserved : goal.loop-before-preserved
loop-before-preserved c =
    elim c.if-value.branch [
      | then-value+in_ok-push w ↦
          let within : w.new.result.var ≤ c.args.vars =
          subst (λ (lit : Literal). lit.var ≤ c.args.vars) (sym w.new.ensures) (omega arith) in
          subst (λ (v : Vec Literal Global). All (λ lit. lit.var ≤ c.args.vars) v.items) (sym w.lits-is)
          (subst (λ (lits : List Literal). All (λ lit. lit.var ≤ c.args.vars) lits) (sym w.in_ok-push.ensures.items)
          (All-push (λ (lit : Literal). lit.var ≤ c.args.vars) c.loop-before.lits.items _ c.loop-before.invariant
          within))
      | else-value w ↦
          subst (λ (v : Vec Literal Global). All (λ lit. lit.var ≤ c.args.vars) v.items) (sym w.lits-is)
          c.loop-before.invariant
    ]
