use Rattle.std.proofs.Common.{◌≡◌, ◌<◌, ◌+◌, [], length, refl, arith, ap}
use Rattle.propagate.specs.Paths.{SeenPath}
use Rattle.propagate.specs.Trails.{values_of}
use Rattle.propagate.proofs.BackedLemmas.{IsWatching-grown}
use Rattle.propagate.proofs.LookLemmas.{AreSound-grown, IsQuiet-ready, IsReady-grown, IsReady-row, NamesConflict-at}
use Rattle.propagate.proofs.TrailLemmas.{IsTrail-grown}
use Rattle.propagate.proofs.settle.take_turn.Goals as goal

pub returns-then-looked-len-clause-trail : goal.returns-then-looked-len-clause-trail
returns-then-looked-len-clause-trail c =
    c.in_default.ensures.visited refl c.min-looked.result (omega (arith, c.min-looked.ensures))
    (omega (arith, c.min-looked.ensures))

pub returns-then-looked-count-clause-came : goal.returns-then-looked-count-clause-came
returns-then-looked-count-clause-came c = (
  IsQuiet-ready c.args.path.now c.args.looked.now c.requires.ready (omega (arith, c.len.ensures.len))
      (omega (arith, c.row_count-count.ensures.len)),
  omega (arith, c.len.ensures.len, c.requires.ready.entries),
)

pub returns-then-not-look_at-clause-trail : goal.returns-then-not-look_at-clause-trail
returns-then-not-look_at-clause-trail c =
    IsTrail-grown c.args.path.now c.look_at.new.path c.args.watches.now c.args.looked.now c.requires
    c.look_at.ensures.grown

pub returns-then-not-look_at-clause-came : goal.returns-then-not-look_at-clause-came
returns-then-not-look_at-clause-came c =
    let there : c.args.looked.now.rows < length c.look_at.new.path.rows =
    omega (
      arith,
      c.requires.ready.rows,
      c.row_count-count.ensures.len,
      ap (λ (p : SeenPath). length p.rows)
          c.look_at.ensures.grown.same,
    ) in
    NamesConflict-at c.look_at.new.path.rows (values_of c.look_at.new.path.entries) c.args.looked.now.rows
    (record { row = c.args.looked.now.rows + 1 }) there refl (c.if-not-look_at.ensures.conflict refl)

pub hang_next-requires-clause-sound : goal.hang_next-requires-clause-sound
hang_next-requires-clause-sound c =
    AreSound-grown c.args.path.now c.look_at.new.path c.requires.ready.sound c.look_at.ensures.grown

pub hang_next-requires-clause-watching : goal.hang_next-requires-clause-watching
hang_next-requires-clause-watching c =
    IsWatching-grown c.args.path.now c.look_at.new.path c.args.watches.now [] c.args.looked.now.entries
    c.requires.watching c.requires.ready.entries c.look_at.ensures.grown

pub returns-clause-trail : goal.returns-clause-trail
returns-clause-trail c =
    let rows : length c.look_at.new.path.rows ≡ length c.args.path.now.rows =
    ap (λ (p : SeenPath). length p.rows) c.look_at.ensures.grown.same in
    record {
      ready =
          IsReady-row c.look_at.new.path c.args.looked.now
          (record { entries = c.args.looked.now.entries; rows = c.args.looked.now.rows + 1 })
          (IsReady-grown c.args.path.now c.look_at.new.path c.args.looked.now c.requires.ready
          c.look_at.ensures.grown) (omega (arith, c.requires.ready.rows, c.row_count-count.ensures.len, rows))
          (c.if-not-look_at.ensures.met refl) refl;
      watching = c.hang_next.ensures;
    }
