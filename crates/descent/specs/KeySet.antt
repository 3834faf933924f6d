-- A set of keys below a bound, as a list without repeats and a mark for each key.
use Rattle.std.specs.Prelude.{◌≡◌, ℕ, Bool, ◌||◌, false, eqb, List, length, slice_index_or}
use Rattle.std.specs.List.{IsDistinct}
use Rattle.std.specs.Set.{is_member}
use Rattle.rule_core.specs.Keys.{KeyList}

-- whether a key is one of these
abbrev pub is_in : List ℕ → ℕ → Bool
is_in keys k = is_member eqb keys k

-- the keys, without repeats, each of which has a mark, and none else
pub record AreMarked (keys : KeyList) (marks : List Bool) : Type 0 where
  pub room : keys.room ≡ length marks
  pub distinct : IsDistinct eqb keys.list
  pub marked : (k : ℕ) → slice_index_or marks k false ≡ is_in keys.list k

-- a set with these keys more, in the same room
pub record AreAdded (more : List ℕ) (old new : KeyList) : Type 0 where
  pub room : new.room ≡ old.room
  pub keys : (k : ℕ) → is_in new.list k ≡ (is_in old.list k || is_in more k)
