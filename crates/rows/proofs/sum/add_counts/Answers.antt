use Rattle.std.proofs.Common.{◌≡◌, ℕ, ◌+◌, ◌*◌, ◌<◌, ◌≤◌, cond, length, arith, refl, ap, sym, subst, ◌∙◌}
use Rattle.std.proofs.lemmas.List.Elements.{All-get_or}
use Rattle.rows.specs.declared.lit.Term.{Term}
use Rattle.rows.specs.Sums.{is_same}
use Rattle.rows.specs.Tables.{count_at}
use Rattle.rows.proofs.TableLemmas.{count_step, fits_step}
use Rattle.rows.proofs.sum.add_counts.Goals as goal

pub add_count-requires-clause-fits : goal.add_count-requires-clause-fits
add_count-requires-clause-fits c =
    let lit = c.term-item.result.lit in
    rw (c.from.ensures, c.from-in-loop-term.ensures)
    (fits_step c.args.terms.now c.args.factor c.loop-term.term-index c.term-item.result (count_at c.args.counts.now lit) (count_at c.loop-term.counts lit)
    (omega arith) c.term-item.is (c.loop-term.invariant.counts lit) (c.requires.fits lit))

pub loop-term-preserved : goal.loop-term-preserved
loop-term-preserved c =
    let there : c.loop-term.term-index < length c.args.terms.now = omega arith in
    let product : c.from.result * c.from-in-loop-term.result ≡ c.args.factor * c.term-item.result.coef = rw (c.from.ensures, c.from-in-loop-term.ensures) refl in
    record {
      counts = λ m. count_step c.args.terms.now c.args.factor c.loop-term.term-index c.term-item.result m (count_at c.args.counts.now m) (count_at c.loop-term.counts m) (count_at c.add_count.new.counts m)
          there c.term-item.is (c.loop-term.invariant.counts m)
          (c.add_count.ensures.counts m ∙ ap (λ (n : ℕ). count_at c.loop-term.counts m + cond (is_same c.term-item.result.lit m) n 0) product);
      kept = omega arith;
      touched = c.add_count.ensures.touched;
      up_to = λ top old known. c.add_count.ensures.up_to top (c.loop-term.invariant.up_to top old known)
          (subst (λ (t : Term). t.lit.var ≤ top) (sym c.term-item.is) (All-get_or (λ t. t.lit.var ≤ top) c.args.terms.now c.loop-term.term-index c.term-item.result there known));
      room = omega arith;
    }
