use Rattle.std.proofs.Common.{◌+◌, ◌-◌, ◌∙◌, arith, sym}
use Rattle.league.specs.Sets.{is_in}
use Rattle.break_counts.proofs.TableLemmas.{fails-at, passes-more}
use Rattle.break_counts.proofs.cover.holds_later.Goals as goal

pub returns-then-not-has : goal.returns-then-not-has
returns-then-not-has c =
    fails-at (λ s. is_in s c.args.slots.now) (c.args.stretch.first + 1) (c.args.stretch.count - 1)
    (c.args.stretch.first + c.loop-distance.distance) (omega arith) (omega arith)
    (sym c.has.ensures ∙ c.if-not-has.true)

pub loop-distance-preserved : goal.loop-distance-preserved
loop-distance-preserved c =
    passes-more (λ s. is_in s c.args.slots.now) c.args.stretch.first c.loop-distance.distance (omega arith) c.loop-distance.invariant
    (sym c.has.ensures ∙ c.if-not-has.false)
