use Rattle.std.proofs.Common.{◌<◌, length, arith, ap, subst}
use Rattle.rows.specs.Partials.{IsQuietRow}
use Rattle.rows.specs.Values.{valued}
use Rattle.propagate.specs.Counters.{SeenCounters}
use Rattle.propagate.specs.Numbered.{row_at}
use Rattle.propagate.proofs.CountLemmas.{IsQuietRow-enough}
use Rattle.propagate.proofs.counters.Counters.is_enough.Goals as goal

pub returns : goal.returns
returns c = λ at_least.
    let there : c.args.k < length c.self.inside.rows = omega (arith, c.requires, ap (λ (s : SeenCounters). length s.rows) c.self.view_is) in
    subst (λ (s : SeenCounters). IsQuietRow (valued s.values) (row_at s.rows c.args.k)) c.self.view_is
    (IsQuietRow-enough c.self.inside.rows c.self.inside.values c.self.inside.table c.args.k c.index.result.now c.index-2.result.now c.self.invariant there c.index.ensures c.index-2.ensures at_least)
