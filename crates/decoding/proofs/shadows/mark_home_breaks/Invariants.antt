use Rattle.std.proofs.Common.{◌≡◌, ℕ, ◌≤◌, ◌||◌, length, take}
use Rattle.std.specs.List.{list_any}
use Rattle.rows.specs.Values.{assigned}
use Rattle.decoding.specs.Marks.{marks_home_break}
use Rattle.decoding.proofs.shadows.mark_home_breaks.Given as goal

abbrev pub invariant-loop-game : goal.invariant-loop-game
invariant-loop-game l = record {
  kept : length l.values ≡ length l.fn.values;
  marked : (v : ℕ) → 1 ≤ v → assigned l.values v ≡ (list_any (marks_home_break l.encoding.n (assigned l.home) v)
      (take l.game-index l.games) || assigned l.fn.values v);
}
