use Rattle.std.proofs.Common.{◌∙◌, ℕ, Bool, ap, arith, get_or, not, sym}
use Rattle.break_counts.specs.Sums.{is_counted}
use Rattle.break_counts.proofs.TableLemmas.{passing-left, passing-taken}
use Rattle.break_counts.proofs.together.total_beside.Goals as goal
use Rattle.break_counts.proofs.together.total_beside.Goals.{then-not-is_counted, else-not-is_counted}

pub loop-team-preserved : goal.loop-team-preserved
loop-team-preserved c =
    let out : ℕ → Bool = λ i. not (is_counted c.args.league.now.constraints c.args.summands.now c.args.stretches.now i) in
    elim c.if-not-is_counted.branch [
      | then-not-is_counted w ↦ record {
        so_far = passing-taken (λ i. get_or c.args.numbers.now i 0) out c.loop-team.team c.loop-team.sum
            c.if-not-is_counted.sum c.loop-team.invariant.so_far
            (ap not (sym c.is_counted.ensures ∙ w.if-not-is_counted.true))
            (omega (arith, w.sum-is, w.from-sum.ensures));
        small = omega (arith, w.sum-is, w.from-sum.ensures, c.loop-team.invariant.small);
      }
      | else-not-is_counted w ↦ record {
        so_far = passing-left (λ i. get_or c.args.numbers.now i 0) out c.loop-team.team c.loop-team.sum
            c.if-not-is_counted.sum c.loop-team.invariant.so_far
            (ap not (sym c.is_counted.ensures ∙ w.if-not-is_counted.false))
            (omega (arith, w.sum-is));
        small = omega (arith, w.sum-is, c.loop-team.invariant.small);
      }
    ]
