use Rattle.std.proofs.Common.{◌≡◌, ℕ, ◌+◌, ◌*◌, ◌<◌, ◌≤◌, cond, length, get_or, arith, ap, sym, subst, ◌∙◌}
use Rattle.std.proofs.lemmas.List.{get_or_read}
use Rattle.std.proofs.lemmas.List.Elements.{All-get_or}
use Rattle.rows.specs.declared.lit.Term.{Term}
use Rattle.rows.specs.Sums.{is_same}
use Rattle.rows.specs.Tables.{count_at}
use Rattle.rows.proofs.TableLemmas.{count_step, fits_step}
use Rattle.rows.proofs.sum.add_wide_counts.Goals as goal

pub add_count-requires-clause-fits : goal.add_count-requires-clause-fits
add_count-requires-clause-fits c =
    let t : Term = record { coef = c.term.inside.coef; lit = c.term.inside.lit } in
    let there : c.loop-term.term-index < length c.args.terms.now = omega arith in
    let is : t ≡ get_or c.args.terms.now c.loop-term.term-index t =
    c.term.view_is ∙ get_or_read c.args.terms.now c.loop-term.term-index c.term-item.result there c.term-item.is t in
    rw c.from.ensures
    (fits_step c.args.terms.now c.args.factor c.loop-term.term-index t (count_at c.args.counts.now t.lit) (count_at c.loop-term.counts t.lit)
    there is (c.loop-term.invariant.counts t.lit) (c.requires.fits t.lit))

pub loop-term-preserved : goal.loop-term-preserved
loop-term-preserved c =
    let t : Term = record { coef = c.term.inside.coef; lit = c.term.inside.lit } in
    let there : c.loop-term.term-index < length c.args.terms.now = omega arith in
    let is : t ≡ get_or c.args.terms.now c.loop-term.term-index t =
    c.term.view_is ∙ get_or_read c.args.terms.now c.loop-term.term-index c.term-item.result there c.term-item.is t in
    record {
      counts = λ m. count_step c.args.terms.now c.args.factor c.loop-term.term-index t m (count_at c.args.counts.now m) (count_at c.loop-term.counts m) (count_at c.add_count.new.counts m)
          there is (c.loop-term.invariant.counts m)
          (c.add_count.ensures.counts m ∙ ap (λ (n : ℕ). count_at c.loop-term.counts m + cond (is_same t.lit m) (n * t.coef) 0) c.from.ensures);
      kept = omega arith;
      touched = c.add_count.ensures.touched;
      up_to = λ top old known. c.add_count.ensures.up_to top (c.loop-term.invariant.up_to top old known)
          (subst (λ (u : Term). u.lit.var ≤ top) (sym is) (All-get_or (λ u. u.lit.var ≤ top) c.args.terms.now c.loop-term.term-index t there known));
      room = omega arith;
    }
