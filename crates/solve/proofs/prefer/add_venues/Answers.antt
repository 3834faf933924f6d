use Rattle.std.proofs.Common.{◌≤◌, List, subst, sym}
use Rattle.std.specs.List.{All}
use Rattle.std.proofs.lemmas.List.Elements.{All-push}
use Rattle.encoding.specs.Variables.{var_count}
use Rattle.rows.specs.Literals.{Literal}
use Rattle.solve.proofs.prefer.add_venues.Goals as goal

pub loop-slot-preserved : goal.loop-slot-preserved
loop-slot-preserved c =
    let vars = var_count c.args.encoding.now in
    let within : c.new.result.var ≤ vars =
    subst (λ (lit : Literal). lit.var ≤ vars) (sym c.new.ensures) c.h.ensures.at_most in
    subst (λ (lits : List Literal). All (λ lit. lit.var ≤ vars) lits) (sym c.in_ok-push.ensures.items)
    (All-push (λ (lit : Literal). lit.var ≤ vars) c.loop-slot.lits.items _ c.loop-slot.invariant within)
