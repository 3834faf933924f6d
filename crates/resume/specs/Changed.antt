-- How many games of an old plan a schedule changes, by its counts, and which of two schedules is nearer the plan.
use Rattle.std.specs.Prelude.{◌≡◌, ◌<◌, ◌≤◌, ◌⊎◌, ℕ, Bool, not, ◌&&◌, nat_lt, List}
use Rattle.std.specs.List.{count_by}
use Rattle.league.specs.Counts.{Counts}
use Rattle.league.specs.declared.game.Game.{Game}
use Rattle.resume.specs.Kept.{is_played}

-- a game is still to come where the first k slots are played
abbrev pub is_open : ℕ → Game → Bool
is_open k game = not (nat_lt game.slot.0 k)

-- a game is still to come, and doesn't take place
abbrev pub is_changed : ℕ → Counts → Game → Bool
is_changed k m game = is_open k game && not (is_played m game.home.0 game.away.0 game.slot.0)

-- how many games of an old plan are still to come and don't take place
abbrev pub changed_on : ℕ → List Game → Counts → ℕ
changed_on k old m = count_by (is_changed k m) old

-- fewer games are changed, or as many at no higher cost
abbrev pub IsAtMost : (changes cost : ℕ) → (most_changes most_cost : ℕ) → Type 0
IsAtMost changes cost most_changes most_cost = (changes < most_changes) ⊎ ((changes ≡ most_changes) × (cost ≤ most_cost))

-- fewer games are changed, or as many at a lower cost
abbrev pub IsNearer : (changes cost : ℕ) → (than_changes than_cost : ℕ) → Type 0
IsNearer changes cost than_changes than_cost = (changes < than_changes) ⊎ ((changes ≡ than_changes) × (cost < than_cost))
