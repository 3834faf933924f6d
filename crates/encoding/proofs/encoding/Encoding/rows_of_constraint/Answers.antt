use Rattle.std.proofs.Common.{◌≡◌, ℕ, ◌+◌, ◌≤◌, length, arith, ◌∙◌}
use Rattle.encoding.proofs.RowRangeLemmas.{first_row-order, first_row-within}
use Rattle.encoding.specs.RowRanges.{first_row, first_rows}
use Rattle.encoding.proofs.OwnerLemmas.{rows-between, starts-at, starts-long, starts-seen}
use Rattle.encoding.proofs.encoding.Encoding.rows_of_constraint.Goals as goal

pub index-start-requires : goal.index-start-requires
index-start-requires c =
    let seen : c.self.inside.starts.items ≡ first_rows c.args.self.now = starts-seen c.self.inside.league c.args.self.now c.self.inside.starts.items c.self.invariant.starts_are c.self.view_is in
    omega (arith, starts-long c.args.self.now c.self.inside.starts.items seen, c.self.inside.starts.ok.0, c.requires)

pub overflow_add-k : goal.overflow_add-k
overflow_add-k c =
    let seen : c.self.inside.starts.items ≡ first_rows c.args.self.now = starts-seen c.self.inside.league c.args.self.now c.self.inside.starts.items c.self.invariant.starts_are c.self.view_is in
    omega (
      arith,
      starts-long c.args.self.now c.self.inside.starts.items seen,
      c.self.inside.starts.ok.0,
      c.self.inside.starts.small,
      c.requires,
    )

pub index-end-requires : goal.index-end-requires
index-end-requires c =
    let seen : c.self.inside.starts.items ≡ first_rows c.args.self.now = starts-seen c.self.inside.league c.args.self.now c.self.inside.starts.items c.self.invariant.starts_are c.self.view_is in
    omega (arith, starts-long c.args.self.now c.self.inside.starts.items seen, c.self.inside.starts.ok.0, c.requires)

pub returns-clause-start : goal.returns-clause-start
returns-clause-start c =
    let seen : c.self.inside.starts.items ≡ first_rows c.args.self.now = starts-seen c.self.inside.league c.args.self.now c.self.inside.starts.items c.self.invariant.starts_are c.self.view_is in
    c.index-start.ensures
    ∙ starts-at c.args.self.now c.self.inside.starts.items c.args.k c.index-start.result.now seen (omega (arith, c.requires))

pub returns-clause-end : goal.returns-clause-end
returns-clause-end c =
    let seen : c.self.inside.starts.items ≡ first_rows c.args.self.now = starts-seen c.self.inside.league c.args.self.now c.self.inside.starts.items c.self.invariant.starts_are c.self.view_is in
    c.index-end.ensures
    ∙ starts-at c.args.self.now c.self.inside.starts.items (c.args.k + 1) c.index-end.result.now seen (omega (arith, c.requires))

pub returns-clause-ordered : goal.returns-clause-ordered
returns-clause-ordered c =
    let start : c.index-start.result.now ≡ first_row c.args.self.now c.args.k = returns-clause-start c in
    let end : c.index-end.result.now ≡ first_row c.args.self.now (c.args.k + 1) = returns-clause-end c in
    omega (arith, start, end, first_row-order c.args.self.now c.args.k (c.args.k + 1) (omega arith))

pub returns-clause-within : goal.returns-clause-within
returns-clause-within c =
    let end : c.index-end.result.now ≡ first_row c.args.self.now (c.args.k + 1) = returns-clause-end c in
    omega (arith, end, first_row-within c.args.self.now (c.args.k + 1))

pub returns-clause-rows : goal.returns-clause-rows
returns-clause-rows c =
    rows-between c.args.self.now c.args.k c.index-start.result.now c.index-end.result.now (returns-clause-start c)
    (returns-clause-end c)
