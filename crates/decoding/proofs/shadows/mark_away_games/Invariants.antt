use Rattle.std.proofs.Common.{◌≡◌, ℕ, ◌≤◌, ◌||◌, length, take}
use Rattle.std.specs.List.{list_any}
use Rattle.rows.specs.Values.{assigned}
use Rattle.decoding.specs.Marks.{marks_away}
use Rattle.decoding.proofs.shadows.mark_away_games.Given as goal

abbrev pub invariant-loop-game : goal.invariant-loop-game
invariant-loop-game l = record {
  kept : length l.away ≡ length l.fn.away;
  marked : (v : ℕ) → 1 ≤ v → assigned l.away v ≡ (list_any (marks_away l.encoding.n v)
      (take l.game-index l.games) || assigned l.fn.away v);
}
