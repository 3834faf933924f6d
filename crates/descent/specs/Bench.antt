-- The bench at which the keys that a change touches are found.
use Rattle.std.specs.Prelude.{◌≡◌, ℕ, ◌<◌, ◌≤◌, eqb, List, []}
use Rattle.std.specs.List.{All, flat_map, IsDistinct}
use Rattle.league.specs.declared.game.Game.{Game}
use Rattle.rule_core.specs.declared.rule.Entries.{Ghosts}
use Rattle.descent.specs.KeySet.{AreAdded, is_in}
use Rattle.descent.specs.declared.bench.Bench.{Bench}

-- no key is found, and there is room for so many keys of a game and for each key below a bound
pub record IsCleared (most terms : ℕ) (bench : Bench) : Type 0 where
  pub reach : bench.keys.room ≡ most
  pub room : bench.found.room ≡ terms
  pub clean : bench.found.list ≡ []

-- a bench has room for the keys of a rule
pub record HasRoom {R : Type 0} (E : Ghosts R) (rule : R) (bench : Bench) : Type 0 where
  pub reach : E.reach_of rule ≤ bench.keys.room
  pub terms : E.term_count rule ≤ bench.found.room

-- a bench where these keys more are found
pub record HasFound (keys : List ℕ) (old new : Bench) : Type 0 where
  pub reach : new.keys.room ≡ old.keys.room
  pub found : AreAdded keys old.found new.found

-- the keys of a rule that some games touch are found, each once
pub record HasTouched {R : Type 0} (E : Ghosts R) (rule : R) (games : List Game) (old new : Bench) : Type 0 where
  pub reach : new.keys.room ≡ old.keys.room
  pub room : new.found.room ≡ old.found.room
  pub distinct : IsDistinct eqb new.found.list
  pub below : All (λ k. k < E.term_count rule) new.found.list
  pub keys : (k : ℕ) → is_in new.found.list k ≡ is_in (flat_map (E.touches rule) games) k

-- a bench was used, and is as clean as before
pub record OnlyUsed (old new : Bench) : Type 0 where
  pub reach : new.keys.room ≡ old.keys.room
  pub found : new.found ≡ old.found
