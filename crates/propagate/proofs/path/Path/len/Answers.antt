use Rattle.std.proofs.Common.{◌≡◌, length, arith, ap}
use Rattle.propagate.specs.Paths.{SeenPath}
use Rattle.propagate.proofs.PathLemmas.{AreKept-few, room_inside}
use Rattle.propagate.proofs.path.Path.len.Goals as goal

pub returns-clause-at_most : goal.returns-clause-at_most
returns-clause-at_most c =
    let vars_are : length c.self.inside.counters.values ≡ c.args.self.now.vars = ap (λ (p : SeenPath). p.vars) c.self.view_is in
    omega (arith, vars_are, AreKept-few c.self.inside.counters.values c.self.inside.entries.items _ c.self.invariant.kept, c.self.inside.entries.ok)

pub returns-clause-room : goal.returns-clause-room
returns-clause-room c = λ l from_one known free.
    room_inside c.self.inside.counters c.self.inside.added c.self.inside.entries.items c.args.self.now _ l c.self.invariant.kept c.self.view_is from_one known free
