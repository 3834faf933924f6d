use Rattle.std.proofs.Common.{◌<◌, length, arith, ap, ◌∙◌}
use Rattle.rows.specs.Partials as partials
use Rattle.rows.specs.Values.{valued}
use Rattle.propagate.specs.Counters.{SeenCounters}
use Rattle.propagate.specs.Numbered.{row_at}
use Rattle.propagate.proofs.CountLemmas.{reach-read}
use Rattle.propagate.proofs.counters.Counters.reach.Goals as goal

pub returns : goal.returns
returns c =
    let there : c.args.k < length c.self.inside.rows = omega (arith, c.requires, ap (λ (s : SeenCounters). length s.rows) c.self.view_is) in
    reach-read c.self.inside.rows c.self.inside.values c.self.inside.table c.args.k c.index.result.now c.self.invariant there c.index.ensures
    ∙ ap (λ (s : SeenCounters). partials.reach (valued s.values) (row_at s.rows c.args.k).terms) c.self.view_is
