use Rattle.std.proofs.Common.{◌≤◌, List, subst, sym}
use Rattle.std.specs.List.{All}
use Rattle.std.proofs.lemmas.List.Elements.{All-push}
use Rattle.encoding.specs.Variables.{x_count}
use Rattle.rows.specs.Literals.{Literal}
use Rattle.resume.proofs.plan.preferred.Goals as goal

pub loop-game-preserved : goal.loop-game-preserved
loop-game-preserved c =
    subst (λ (lits : List Literal). All (λ lit. lit.var ≤ x_count c.args.n) lits) (sym c.in_ok-push.ensures.items)
    (All-push (λ (lit : Literal). lit.var ≤ x_count c.args.n) c.loop-game.lits.items _ c.loop-game.invariant
    c.literal_of.ensures)
