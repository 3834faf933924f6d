-- What the moves of slots, and those of teams, have in common: any set of teams whose slots are exchanged, and any set
-- of slots in which two teams are.
use Rattle.std.specs.Prelude.{◌≡◌, ℕ, ◌+◌, ◌-◌, ◌*◌, ◌<◌, ◌≤◌, Bool, true, false, ◌&&◌, ◌||◌, ◌==◌, nat_lt, length}
use Rattle.std.specs.Prelude.{if◌then◌else◌, ◌⊎◌}
use Rattle.std.specs.List.{sum_by}
use Rattle.league.specs.Counts.{Counts, counts_of, slot_count}
use Rattle.league.specs.Structure.{first_half}
use Rattle.moves.specs.Moves.{do_meet, exchange, follows}
use Rattle.moves.specs.Round.{Edits}

-- the games of these home teams, where two slots are exchanged
abbrev pub slots_exchanged : (ℕ → Bool) → ℕ → ℕ → Counts → Counts
slots_exchanged set s t m a b r = if set a then m a b (exchange s t r) else m a b r

-- the games in these slots, where two teams are exchanged
abbrev pub teams_exchanged : (ℕ → Bool) → ℕ → ℕ → Counts → Counts
teams_exchanged set i j m a b r = if set r then m (exchange i j a) (exchange i j b) r else m a b r

-- with each of these teams, those that it meets in slots s and t are among them
abbrev pub IsClosedTeams : ℕ → Counts → ℕ → ℕ → (ℕ → Bool) → Type 0
IsClosedTeams n m s t set =
    (a b : ℕ) → b < n → set a ≡ true → (do_meet m a b s || do_meet m a b t) ≡ true → set b ≡ true

-- with each of these slots, the one that follows it is among them; and i and j meet in none of them
pub record IsClosedSlots (n : ℕ) (m : Counts) (i j : ℕ) (set : ℕ → Bool) : Type 0 where
  pub closed : (r q : ℕ) → q < slot_count n → set r ≡ true → follows n m i j r q ≡ true → set q ≡ true
  pub apart : (r : ℕ) → r < slot_count n → set r ≡ true → do_meet m i j r ≡ false

-- whether a slot is in the first half
abbrev pub is_early : ℕ → ℕ → Bool
is_early n s = nat_lt s (n - 1)

-- each of these teams has the same opponent in two slots
abbrev pub HaveSamePairs : ℕ → Counts → ℕ → ℕ → (ℕ → Bool) → Type 0
HaveSamePairs n m s t set = (a b : ℕ) → a < n → b < n → set a ≡ true → do_meet m a b s ≡ do_meet m a b t

-- two slots of one half, or two in which these teams have the same opponents, or any two where there are no phases
abbrev pub AreExchangeable : ℕ → Bool → Counts → ℕ → ℕ → (ℕ → Bool) → Type 0
AreExchangeable n phased m s t set = phased ≡ true → (is_early n s ≡ is_early n t) ⊎ HaveSamePairs n m s t set

-- the games of two teams in those of these slots that are in the first half
abbrev pub early_games : ℕ → Counts → (ℕ → Bool) → ℕ → ℕ → ℕ
early_games n m set j k = sum_by (λ r. if set r then m j k r + m k j r else 0) (first_half n)

-- whom i meets in one of these slots in the first half, j meets in one of them too
abbrev pub MeetAlike : ℕ → Counts → ℕ → ℕ → (ℕ → Bool) → Type 0
MeetAlike n m i j set =
    (r k : ℕ) → r < n - 1 → k < n → set r ≡ true → do_meet m i k r ≡ true → 1 ≤ early_games n m set j k

-- where there are phases, i and j meet alike in these slots
abbrev pub KeepPhases : ℕ → Bool → Counts → ℕ → ℕ → (ℕ → Bool) → Type 0
KeepPhases n phased m i j set = phased ≡ true → MeetAlike n m i j set

-- the games in slots s and t whose home team is below k and in the set are taken out, and put in with the slots
-- exchanged
pub record AreExchangedBelow (k : ℕ) (set : ℕ → Bool) (m : Counts) (s t : ℕ) (edit : Edits) : Type 0 where
  pub out_length : length edit.out ≤ 2 * k
  pub into_length : length edit.into ≤ 2 * k
  pub out_counts :
      (a b r : ℕ) → counts_of edit.out a b r ≡ (if nat_lt a k && set a && ((r == s) || (r == t)) then m a b r else 0)
  pub into_counts :
      (a b r : ℕ)
      → counts_of edit.into a b r
      ≡ (if nat_lt a k && set a && ((r == s) || (r == t)) then m a b (exchange s t r) else 0)

-- each game of i and of j in the slots below k that are in the set is taken out, and put in with the teams exchanged
pub record AreTradedBelow (k : ℕ) (set : ℕ → Bool) (m : Counts) (i j : ℕ) (edit : Edits) : Type 0 where
  pub out_length : length edit.out ≤ 2 * k
  pub into_length : length edit.into ≤ 2 * k
  pub out_counts :
      (a b r : ℕ)
      → counts_of edit.out a b r
      ≡ (if nat_lt r k && set r && (((a == i) || (b == i)) || ((a == j) || (b == j))) then m a b r else 0)
  pub into_counts :
      (a b r : ℕ)
      → counts_of edit.into a b r
      ≡ (if nat_lt r k && set r && (((a == i) || (b == i)) || ((a == j) || (b == j)))
      then m (exchange i j a) (exchange i j b) r
      else 0)
