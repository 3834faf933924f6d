-- Walks that mark teams or slots on their way.
use Rattle.std.specs.Prelude.{◌≡◌, ◌≢◌, ℕ, ◌<◌, Bool, true, false, ◌||◌, ◌⊎◌, List, slice_index_or}
use Rattle.std.specs.List.{count_by}
use Rattle.league.specs.Counts.{Counts, slot_count}
use Rattle.league.specs.Sets.{is_in}
use Rattle.moves.specs.Closure.{reached}
use Rattle.moves.specs.Moves.{do_meet, follows}

-- whether a number is marked
abbrev pub is_marked : List Bool → ℕ → Bool
is_marked marks a = slice_index_or marks a false

-- how many are marked
abbrev pub marked_count : List Bool → ℕ
marked_count marks = count_by (λ b. b) marks

-- what is marked, and where the walk stands, is below k, and reached from x in as many steps as are marked
pub record IsOnWay (next : ℕ → ℕ → Bool) (k x : ℕ) (marks : List Bool) (at : ℕ) : Type 0 where
  pub below : at < k
  pub marked : (a : ℕ) → is_marked marks a ≡ true → a < k
  pub reaches : is_in at (reached next k x (marked_count marks)) ≡ true
  pub reached_all : (a : ℕ) → is_marked marks a ≡ true → is_in a (reached next k x (marked_count marks)) ≡ true

-- a walk from slot x: each marked slot's next one is marked, or is where the walk stands
pub record IsSlotWalk (n : ℕ) (m : Counts) (i j x : ℕ) (marks : List Bool) (at : ℕ) : Type 0 where
  pub way : IsOnWay (follows n m i j) (slot_count n) x marks at
  pub closed :
      (a b : ℕ)
      → b < slot_count n
      → is_marked marks a ≡ true
      → follows n m i j a b ≡ true
      → (is_marked marks b ≡ true) ⊎ (b ≡ at)
  pub started : (is_marked marks x ≡ true) ⊎ (at ≡ x)
  pub apart : (r : ℕ) → is_marked marks r ≡ true → do_meet m i j r ≡ false
  pub here : do_meet m i j at ≡ false

-- a walk from team x to its opponent in slot s, to that team's opponent in slot t, and so on
pub record IsTeamWalk (n : ℕ) (m : Counts) (x s t : ℕ) (marks : List Bool) (at : ℕ) : Type 0 where
  pub way : IsOnWay (λ a b. do_meet m a b s || do_meet m a b t) n x marks at
  pub in_s : (a b : ℕ) → is_marked marks a ≡ true → do_meet m a b s ≡ true → is_marked marks b ≡ true
  pub in_t :
      (a b : ℕ) → is_marked marks a ≡ true → do_meet m a b t ≡ true → a ≢ x → (is_marked marks b ≡ true) ⊎ (b ≡ at)
  pub ends : is_marked marks at ≡ true → at ≡ x
  pub came :
      ((is_marked marks x ≡ false) × (at ≡ x)) ⊎ ((b : ℕ) → do_meet m at b t ≡ true → is_marked marks b ≡ true)
  pub started : (is_marked marks x ≡ true) ⊎ (at ≡ x)
