use Rattle.std.proofs.Common.{◌≤◌, List, arith, subst, sym}
use Rattle.std.specs.List.{All}
use Rattle.std.proofs.lemmas.List.Elements.{All-push}
use Rattle.refutation.specs.declared.step.Part.{Part}
use Rattle.break_counts.proofs.log.add_sum.Goals as goal

pub loop-row-preserved : goal.loop-row-preserved
loop-row-preserved c =
    let once : 1 ≤ 1 = omega arith in
    subst (λ (parts : List Part). All (λ part. 1 ≤ part.factor) parts) (sym c.in_ok-push.ensures.items)
    (All-push (λ (part : Part). 1 ≤ part.factor) c.loop-row.parts.items _ c.loop-row.invariant once)
