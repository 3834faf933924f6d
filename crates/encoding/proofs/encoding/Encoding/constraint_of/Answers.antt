use Rattle.std.proofs.Common.{◌≡◌, ℕ, ◌-◌, ◌<◌, List, Some, length, ap, arith, ◌∙◌}
use Rattle.encoding.proofs.RowRangeLemmas.{row_of-once}
use Rattle.encoding.specs.RowRanges.{IsRowOf, first_rows}
use Rattle.encoding.proofs.OwnerLemmas.{none_before, none_behind, owner, starts-order, starts-seen}
use Rattle.encoding.proofs.encoding.Encoding.constraint_of.Goals as goal
use Rattle.encoding.proofs.encoding.Encoding.constraint_of.Goals.{then-begun-eq0-via-else-begun-eq0+then-begun-len}
use Rattle.encoding.proofs.encoding.Encoding.constraint_of.Goals.{then-begun-eq0-via-then-begun-eq0}

pub count_at_most-begun-requires : goal.count_at_most-begun-requires
count_at_most-begun-requires c =
    starts-order c.self.inside.league c.deref.result.now (c.deref.ensures.value ∙ c.self.invariant.starts_are)

pub returns-then-begun-eq0-clause-each : goal.returns-then-begun-eq0-clause-each
returns-then-begun-eq0-clause-each c = λ k is.
    let starts = c.deref.result.now in
    let seen : c.deref.result.now ≡ first_rows c.args.self.now = c.deref.ensures.value ∙ starts-seen c.self.inside.league c.args.self.now c.self.inside.starts.items c.self.invariant.starts_are c.self.view_is in
    let none : ⊥ = elim c.then-begun-eq0.branch [
      | then-begun-eq0-via-then-begun-eq0 w ↦
          none_before c.args.self.now starts c.args.row k seen
          (λ j d from within. c.count_at_most-begun.ensures.above j d (omega (arith, w.if-begun-eq0.true)) within) is
      | then-begun-eq0-via-else-begun-eq0+then-begun-len w ↦
          none_behind c.args.self.now starts c.args.row k seen
          (λ j d within. c.count_at_most-begun.ensures.below j d
          (omega (arith, within, w.if-begun-len.true, w.len.ensures, c.deref.ensures.len, c.self.inside.starts.ok.0, ap (λ (ks : List ℕ). length ks) c.deref.ensures.value)))
          is
    ] in
    absurd none

pub returns-clause-whose : goal.returns-clause-whose
returns-clause-whose c =
    let seen : c.deref.result.now ≡ first_rows c.args.self.now = c.deref.ensures.value ∙ starts-seen c.self.inside.league c.args.self.now c.self.inside.starts.items c.self.invariant.starts_are c.self.view_is in
    owner c.args.self.now c.deref.result.now c.args.row c.count_at_most-begun.result seen
    c.count_at_most-begun.ensures.below c.count_at_most-begun.ensures.above (omega (arith, c.if-begun-eq0.false))
    (omega (
      arith,
      c.count_at_most-begun.ensures.few,
      c.if-begun-len.false,
      c.len.ensures,
      c.self.inside.starts.ok.0,
      ap (λ (ks : List ℕ). length ks) c.deref.ensures.value,
    ))

pub returns-clause-each : goal.returns-clause-each
returns-clause-each c = λ k is.
    ap (λ (j : ℕ). Some j)
    (row_of-once c.args.self.now (c.count_at_most-begun.result - 1) k c.args.row (returns-clause-whose c) is)
