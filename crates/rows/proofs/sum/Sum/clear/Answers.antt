use Rattle.std.proofs.Common.{length, arith, refl, ap, ◌∙◌}
use Rattle.rows.specs.Tables.{count_at}
use Rattle.rows.proofs.TableLemmas.{IsKept-cleared, totals_of-cleared, written_back}
use Rattle.rows.proofs.sum.Sum.clear.Goals as goal

pub clear_touched-requires : goal.clear_touched-requires
clear_touched-requires c = rw (c.deref_mut.ensures.value, c.deref.ensures.value) c.self.invariant.touched_all

pub invariant_of-self : goal.invariant_of-self
invariant_of-self c =
    let back =
    written_back c.self.inside.counts.items c.clear_touched.new.counts c.self.inside.counts.len
    (omega (arith, c.clear_touched.auto.counts, ap length c.deref_mut.ensures.value)) (omega (arith, c.self.inside.counts.ok)) in
    rw c.clear.ensures.items (IsKept-cleared _ refl (ap count_at back ∙ c.clear_touched.ensures) refl refl)

pub returns : goal.returns
returns c =
    let back =
    written_back c.self.inside.counts.items c.clear_touched.new.counts c.self.inside.counts.len
    (omega (arith, c.clear_touched.auto.counts, ap length c.deref_mut.ensures.value)) (omega (arith, c.self.inside.counts.ok)) in
    totals_of-cleared _ refl (ap count_at back ∙ c.clear_touched.ensures) refl refl
