-- Tables of games and of slots: for each team 78 places, one for each slot of the longest season, and for each home
-- team 40 places, one for each away team.
use Rattle.std.specs.Prelude.{◌≡◌, ◌≢◌, ℕ, ◌+◌, ◌*◌, ◌<◌, ◌≤◌, Bool, true, false, ◌&&◌, ◌||◌, ◌==◌, ◌⊎◌, List, length}
use Rattle.std.specs.Prelude.{slice_index}
use Rattle.std.specs.List.{All, Contains}
use Rattle.league.specs.Counts.{Counts, slot_count}
use Rattle.league.specs.Instance.{IsGame, IsTeamCount}
use Rattle.league.specs.Structure.{IsRoundRobin}
use Rattle.league.specs.declared.game.Game.{Game}
use Rattle.moves.specs.Moves.{game, times}
use Rattle.moves.specs.Round.{Round, entry, round_counts}

-- a game of a team in a slot
abbrev pub is_of : ℕ → ℕ → Game → Bool
is_of i s g = ((g.home.0 == i) || (g.away.0 == i)) && (g.slot.0 == s)

-- a game of a team in a slot, that is played
pub record IsGameOf (n : ℕ) (m : Counts) (i s : ℕ) (g : Game) : Type 0 where
  pub fits : IsGame n g
  pub of : is_of i s g ≡ true
  pub there : 1 ≤ times m g

-- a played game for each team and slot
pub record IsTable (n : ℕ) (m : Counts) (games : List Game) : Type 0 where
  pub long : length games ≡ 3120
  pub at : (i s : ℕ) → i < n → s < slot_count n → IsGameOf n m i s (entry games i s)

-- the slot of home team i and away team j
abbrev pub slot_entry : List ℕ → ℕ → ℕ → ℕ
slot_entry slots i j = slice_index slots (i * 40 + j)

-- the slot of each meeting
pub record IsSlotTable (n : ℕ) (m : Counts) (slots : List ℕ) : Type 0 where
  pub long : length slots ≡ 1600
  pub below : (i j : ℕ) → i < n → j < n → i ≢ j → slot_entry slots i j < slot_count n
  pub there : (i j : ℕ) → i < n → j < n → i ≢ j → 1 ≤ m i j (slot_entry slots i j)

-- a round robin, with a game of each team in each slot
pub record IsRound (r : Round) : Type 0 where
  pub teams : IsTeamCount r.n
  pub table : IsTable r.n (round_counts r) r.games
  pub round_robin : IsRoundRobin r.n r.phased (round_counts r)

-- whether a game is of home team i and away team j
abbrev pub is_meeting : ℕ → ℕ → Game → Bool
is_meeting i j g = (g.home.0 == i) && (g.away.0 == j)

-- the place of a team and slot has a placed game of theirs, or what it had where there is none
abbrev pub IsPlacedAt : List Game → List Game → List Game → ℕ → ℕ → Type 0
IsPlacedAt placed old new i s =
    (All (λ g. is_of i s g ≡ false) placed × (entry new i s ≡ entry old i s))
    ⊎ (Contains placed (entry new i s) × (is_of i s (entry new i s) ≡ true))

-- the place of two teams has the slot of a placed game of theirs, or what it had where there is none
abbrev pub IsSlotPlacedAt : List Game → List ℕ → List ℕ → ℕ → ℕ → Type 0
IsSlotPlacedAt placed old new i j =
    (All (λ g. is_meeting i j g ≡ false) placed × (slot_entry new i j ≡ slot_entry old i j))
    ⊎ Contains placed (game i j (slot_entry new i j))

-- every place has a placed game and its slot, or what it had
pub record ArePlaced (placed old new : List Game) (old_slots new_slots : List ℕ) : Type 0 where
  pub games : (i s : ℕ) → s < 78 → IsPlacedAt placed old new i s
  pub slots : (i j : ℕ) → j < 40 → IsSlotPlacedAt placed old_slots new_slots i j
  pub long : length new ≡ length old
  pub slots_long : length new_slots ≡ length old_slots
