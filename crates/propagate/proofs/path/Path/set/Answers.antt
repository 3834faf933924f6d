use Rattle.std.proofs.Common.{◌≡◌, ℕ, ◌<◌, ◌≤◌, ◌++◌, [], ◌∷◌, length, arith, ap, ◌∙◌}
use Rattle.std.specs.Prelude.{is_ok}
use Rattle.std.specs.Vec.{vec_capacity}
use Rattle.propagate.specs.Counters.{SeenCounters}
use Rattle.rows.specs.Partials.{as_value, value_of}
use Rattle.rows.specs.declared.partial.Value.{Value}
use Rattle.propagate.specs.Paths.{SeenPath}
use Rattle.propagate.specs.Trails.{IsNew, values_of}
use Rattle.propagate.proofs.PathLemmas.{AreKept-pushed, AreKept-room, AreStanding-pushed, IsNew-inside, pushed}
use Rattle.propagate.proofs.path.Path.set.Goals as goal

pub unwrap-requires : goal.unwrap-requires
unwrap-requires c =
    let from_one : 1 ≤ c.args.entry.lit.var = omega arith in
    let new : IsNew (length c.self.inside.counters.values) c.self.inside.entries.items c.args.entry =
    IsNew-inside c.self.inside.counters c.self.inside.added c.self.inside.entries.items c.args.self.now c.args.entry c.self.view_is from_one c.requires.known c.requires.free c.requires.level in
    let room : length c.self.inside.entries.items < length c.self.inside.counters.values =
    AreKept-room c.self.inside.counters.values c.self.inside.entries.items c.args.entry.lit _ c.self.invariant.kept from_one new.known new.free in
    c.push-pushed.ensures.succeeds (omega (arith, room, c.self.invariant.kept.room, c.self.inside.entries.ok))

pub invariant_of-self : goal.invariant_of-self
invariant_of-self c =
    let from_one : 1 ≤ c.args.entry.lit.var = omega arith in
    let new : IsNew (length c.self.inside.counters.values) c.self.inside.entries.items c.args.entry =
    IsNew-inside c.self.inside.counters c.self.inside.added c.self.inside.entries.items c.args.self.now c.args.entry c.self.view_is from_one c.requires.known c.requires.free c.requires.level in
    let items_are : c.push-pushed.new.self.items ≡ c.self.inside.entries.items ++ c.args.entry ∷ [] =
    pushed (is_ok c.push-pushed.result) c.push-pushed.new.self.items c.self.inside.entries.items c.args.entry c.push-pushed.ensures.items (ap is_ok c.unwrap.ensures) in
    record {
      kept = AreKept-pushed c.self.inside.counters.values c.set.new.self.values c.self.inside.entries.items c.push-pushed.new.self.items c.args.entry
          (vec_capacity c.self.inside.entries) (vec_capacity c.push-pushed.new.self) c.self.invariant.kept c.push-pushed.ensures.capacity new
          (ap (λ (s : SeenCounters). s.values) c.set.ensures) items_are;
      standing = AreStanding-pushed c.self.inside.counters.values c.set.new.self.values c.self.inside.entries.items c.push-pushed.new.self.items c.self.inside.places.items c.args.entry
          c.var.result c.len.result (as_value c.args.entry.lit.positive) c.self.invariant.standing from_one new.known (ap (λ (s : SeenCounters). s.values) c.set.ensures) items_are
          c.var.ensures.var (omega (arith, c.len.ensures, c.self.inside.entries.ok));
    }

pub set-requires-clause-free : goal.set-requires-clause-free
set-requires-clause-free c =
    ap (λ (w : ℕ → Value). value_of w c.args.entry.lit) (c.self.invariant.kept.same ∙ ap (λ (p : SeenPath). values_of p.entries) c.self.view_is) ∙ c.requires.free
