use Rattle.std.proofs.Common.{◌≡◌, ◌+◌, ◌-◌, length, arith, ap}
use Rattle.std.specs.Vec.{vec_capacity}
use Rattle.propagate.specs.Counters.{SeenCounters}
use Rattle.propagate.specs.Paths.{SeenPath}
use Rattle.propagate.proofs.PathLemmas.{AreKept-popped, AreStanding-popped, last_true}
use Rattle.propagate.proofs.path.Path.unset.Goals as goal

pub unset-requires-clause-known : goal.unset-requires-clause-known
unset-requires-clause-known c =
    let same : length c.self.inside.entries.items ≡ length c.args.self.now.entries = ap (λ (p : SeenPath). length p.entries) c.self.view_is in
    let end : c.len-last.result - 1 + 1 ≡ length c.self.inside.entries.items = omega (arith, same, c.self.inside.entries.ok) in
    (last_true c.self.inside.counters.values c.self.inside.entries.items (c.len-last.result - 1) c.index.result.now (vec_capacity c.self.inside.entries) c.self.invariant.kept end c.index.ensures).0

pub unset-requires-clause-set : goal.unset-requires-clause-set
unset-requires-clause-set c =
    let same : length c.self.inside.entries.items ≡ length c.args.self.now.entries = ap (λ (p : SeenPath). length p.entries) c.self.view_is in
    let end : c.len-last.result - 1 + 1 ≡ length c.self.inside.entries.items = omega (arith, same, c.self.inside.entries.ok) in
    (last_true c.self.inside.counters.values c.self.inside.entries.items (c.len-last.result - 1) c.index.result.now (vec_capacity c.self.inside.entries) c.self.invariant.kept end c.index.ensures).1

pub invariant_of-self : goal.invariant_of-self
invariant_of-self c =
    let same : length c.self.inside.entries.items ≡ length c.args.self.now.entries = ap (λ (p : SeenPath). length p.entries) c.self.view_is in
    let end : c.len-last.result - 1 + 1 ≡ length c.self.inside.entries.items = omega (arith, same, c.self.inside.entries.ok) in
    record {
      kept = AreKept-popped c.self.inside.counters.values c.unset.new.self.values c.self.inside.entries.items c.truncate.new.self.items (c.len-last.result - 1) c.index.result.now
          (vec_capacity c.self.inside.entries) (vec_capacity c.truncate.new.self) c.self.invariant.kept end c.index.ensures
          c.truncate.ensures.capacity (ap (λ (s : SeenCounters). s.values) c.unset.ensures) c.truncate.ensures.items;
      standing = AreStanding-popped c.self.inside.counters.values c.unset.new.self.values c.self.inside.entries.items c.truncate.new.self.items c.self.inside.places.items
          (c.len-last.result - 1) c.index.result.now (vec_capacity c.self.inside.entries) c.self.invariant.kept c.self.invariant.standing end c.index.ensures
          (ap (λ (s : SeenCounters). s.values) c.unset.ensures) c.truncate.ensures.items;
    }
