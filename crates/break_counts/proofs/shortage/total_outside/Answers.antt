use Rattle.std.proofs.Common.{◌∙◌, ap, arith, get_or, not, sym}
use Rattle.league.specs.Sets.{is_in}
use Rattle.break_counts.proofs.TableLemmas.{passing-left, passing-taken}
use Rattle.break_counts.proofs.shortage.total_outside.Goals as goal
use Rattle.break_counts.proofs.shortage.total_outside.Goals.{then-not-has, else-not-has}

pub loop-k-preserved : goal.loop-k-preserved
loop-k-preserved c =
    elim c.if-not-has.branch [
      | then-not-has w ↦ record {
        so_far = passing-taken (λ i. get_or c.args.numbers.now i 0) (λ i. not (is_in i c.args.teams.now)) c.loop-k.k
            c.loop-k.sum c.if-not-has.sum c.loop-k.invariant.so_far (ap not (sym c.has.ensures ∙ w.if-not-has.true))
            (omega (arith, w.sum-is, w.from-sum.ensures));
        small = omega (arith, w.sum-is, w.from-sum.ensures, c.loop-k.invariant.small);
      }
      | else-not-has w ↦ record {
        so_far = passing-left (λ i. get_or c.args.numbers.now i 0) (λ i. not (is_in i c.args.teams.now)) c.loop-k.k
            c.loop-k.sum c.if-not-has.sum c.loop-k.invariant.so_far (ap not (sym c.has.ensures ∙ w.if-not-has.false))
            (omega (arith, w.sum-is));
        small = omega (arith, w.sum-is, c.loop-k.invariant.small);
      }
    ]
