use Rattle.std.proofs.Common.{ℕ, ◌≤◌, List, arith, ap, subst, sym, ◌∙◌}
use Rattle.std.specs.List.Sorted.{IsSorted}
use Rattle.std.specs.Ordering.{nat_cmp}
use Rattle.std.proofs.lemmas.List.Elements.{All-weaker}
use Rattle.rows.specs.Sums.{cancelled, divided}
use Rattle.rows.specs.Tables.{AreUpTo, Table, totals_of}
use Rattle.rows.proofs.AddLemmas.{All-sorted, IsWide-table, row_of-table, touched-sorted}
use Rattle.rows.proofs.sum.Sum.divide.Goals as goal

pub cancel_all-requires-clause-order : goal.cancel_all-requires-clause-order
cancel_all-requires-clause-order c =
    subst (λ (xs : List ℕ). IsSorted nat_cmp xs) (sym c.deref-3.ensures.value) c.sort_unstable.ensures.sorted

pub cancel_all-requires-clause-known : goal.cancel_all-requires-clause-known
cancel_all-requires-clause-known c =
    let start = c.in_ok-order.ensures.items ∙ c.deref.ensures.value in
    All-sorted (λ v. (1 ≤ v) × (v ≤ 2147483647)) c.self.inside.touched.items c.in_ok-order.order.items c.sort_unstable.new.self.items c.deref-3.result.now start c.sort_unstable.ensures.permutation c.deref-3.ensures.value
    (All-weaker (λ v. (1 ≤ v) × (v ≤ c.self.inside.top)) (λ v. (1 ≤ v) × (v ≤ 2147483647)) (λ v is. (is.0, omega (arith, is.1, c.self.invariant.top))) c.self.inside.touched.items c.self.invariant.up_to)

pub cancel_all-requires-clause-touched : goal.cancel_all-requires-clause-touched
cancel_all-requires-clause-touched c =
    let start = c.in_ok-order.ensures.items ∙ c.deref.ensures.value in
    touched-sorted c.self.inside.counts.items c.deref-2.result.now c.self.inside.touched.items c.in_ok-order.order.items c.sort_unstable.new.self.items c.deref-3.result.now
    c.deref-2.ensures.value start c.sort_unstable.ensures.permutation c.deref-3.ensures.value c.self.invariant.touched_all

pub new-requires : goal.new-requires
new-requires c =
    let start = c.in_ok-order.ensures.items ∙ c.deref.ensures.value in
    let before : Table = record { top = c.self.inside.top; counts = c.self.inside.counts.items; weight = c.self.inside.total; degree = c.self.inside.degree } in
    let up_to : AreUpTo c.self.inside.top c.deref-3.result.now =
    All-sorted (λ v. (1 ≤ v) × (v ≤ c.self.inside.top)) c.self.inside.touched.items c.in_ok-order.order.items c.sort_unstable.new.self.items c.deref-3.result.now start c.sort_unstable.ensures.permutation c.deref-3.ensures.value c.self.invariant.up_to in
    let made =
    row_of-table before c.deref-2.result.now c.from-divisor.result c.args.divisor c.cancel_all.new.terms.items c.in_ok-left.left c.div_ceil.result c.deref-2.ensures.value c.from-divisor.ensures
    (c.in_ok-left.ensures c.self.inside.top up_to) c.div_ceil.ensures in
    IsWide-table before c.self.inside.touched.items c.args.divisor _ c.self.invariant c.requires made

pub returns : goal.returns
returns c =
    let start = c.in_ok-order.ensures.items ∙ c.deref.ensures.value in
    let before : Table = record { top = c.self.inside.top; counts = c.self.inside.counts.items; weight = c.self.inside.total; degree = c.self.inside.degree } in
    let up_to : AreUpTo c.self.inside.top c.deref-3.result.now =
    All-sorted (λ v. (1 ≤ v) × (v ≤ c.self.inside.top)) c.self.inside.touched.items c.in_ok-order.order.items c.sort_unstable.new.self.items c.deref-3.result.now start c.sort_unstable.ensures.permutation c.deref-3.ensures.value c.self.invariant.up_to in
    let made =
    row_of-table before c.deref-2.result.now c.from-divisor.result c.args.divisor c.cancel_all.new.terms.items c.in_ok-left.left c.div_ceil.result c.deref-2.ensures.value c.from-divisor.ensures
    (c.in_ok-left.ensures c.self.inside.top up_to) c.div_ceil.ensures in
    c.new.ensures ∙ made ∙ ap (λ (t : Table). divided c.args.divisor (cancelled (totals_of t))) c.self.view_is
