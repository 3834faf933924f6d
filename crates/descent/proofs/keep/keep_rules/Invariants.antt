use Rattle.std.proofs.Common.{◌≡◌, ◌≤◌, ◌+◌, ◌++◌, map}
use Rattle.std.specs.List.{All}
use Rattle.std.specs.Vec.Iter.{into_iter_items}
use Rattle.rule_core.specs.Table.{table_counts}
use Rattle.descent.specs.Ready.{IsExact, IsReady}
use Rattle.descent.specs.Tallies.{all_terms}
use Rattle.descent.proofs.keep.keep_rules.Given as goal

abbrev pub invariant-loop-weighted : goal.invariant-loop-weighted
invariant-loop-weighted g l =
    (goal.iterator-loop-weighted g).can_next l.weighted-iterator ×
    (goal.iterator-loop-weighted g).is_finite l.weighted-iterator ×
    (map (λ k. k.weighted) l.kept.items ++ into_iter_items l.weighted-iterator ≡ l.fn.rules.items) ×
    All (IsReady g.R.Entries l.cells.n l.room) l.kept.items ×
    All (IsExact g.R.Entries (table_counts l.cells)) l.kept.items ×
    (l.steps ≤ l.initial.steps + all_terms g.R.Entries (map (λ k. k.weighted) l.kept.items))
