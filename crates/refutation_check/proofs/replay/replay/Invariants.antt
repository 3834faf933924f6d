use Rattle.std.proofs.Common.{◌≡◌, drop, length}
use Rattle.rows.specs.Trails.{IsListed}
use Rattle.rows.specs.Values.{valued}
use Rattle.refutation.specs.Following.{replay}
use Rattle.refutation_check.specs.Kept.{all_rows}
use Rattle.refutation_check.proofs.replay.replay.Given as goal

abbrev pub invariant-loop-hint : goal.invariant-loop-hint
invariant-loop-hint l = record {
  rest : replay (all_rows l.rows l.steps) (drop l.hint-index l.hints) (valued l.partial)
      ≡ replay (all_rows l.rows l.steps) l.hints (valued l.fn.partial);
  kept : length l.partial ≡ length l.fn.partial;
  listed : IsListed l.partial l.trail.items;
}
