use Rattle.std.proofs.Common.{◌+◌, ◌-◌, ◌∙◌, arith, sym}
use Rattle.std.specs.List.{list_any}
use Rattle.break_counts.specs.Sums.{counts}
use Rattle.break_counts.proofs.TableLemmas.{fails-at, passes-more}
use Rattle.break_counts.proofs.together.is_counted_in.Goals as goal

pub returns-then-not-is_counted_at : goal.returns-then-not-is_counted_at
returns-then-not-is_counted_at c =
    fails-at (λ s. list_any (counts c.args.league.now.constraints c.args.team s) c.args.summands.now)
    (c.args.stretch.first + 1) (c.args.stretch.count - 1)
    (c.args.stretch.first + c.loop-distance.distance) (omega arith) (omega arith)
    (sym c.is_counted_at.ensures ∙ c.if-not-is_counted_at.true)

pub loop-distance-preserved : goal.loop-distance-preserved
loop-distance-preserved c =
    passes-more (λ s. list_any (counts c.args.league.now.constraints c.args.team s) c.args.summands.now)
    c.args.stretch.first c.loop-distance.distance (omega arith) c.loop-distance.invariant
    (sym c.is_counted_at.ensures ∙ c.if-not-is_counted_at.false)
