use Rattle.std.proofs.Common.{◌≡◌, ◌<◌, ℕ, true, false, drop, length, get_or}
use Rattle.descent.specs.KeySet.{is_in}
use Rattle.descent.proofs.key_set.KeySet.clear.Given as goal

abbrev pub invariant-loop-place : goal.invariant-loop-place
invariant-loop-place l = record {
  long : length l.self-inside.marks.items ≡ l.self-inside.keys.room;
  below : (k : ℕ) → is_in l.self-inside.keys.list k ≡ true → k < length l.self-inside.marks.items;
  ends : l.place-end ≡ length l.self-inside.keys.list;
  left : (k : ℕ) → get_or l.self-inside.marks.items k false ≡ true → is_in (drop l.place l.self-inside.keys.list) k ≡ true;
}
