-- What holds of the grid of every season.
use Rattle.std.specs.Prelude.{◌≡◌, ◌↔◌, ℕ, ◌<◌, ◌≤◌, ◌++◌, codes, decimal}
use Rattle.std.specs.List.{flat_map, sum_by}
use Rattle.league.specs.Breaks.{all_breaks}
use Rattle.league.specs.Counts.{Counts, slots_of, teams_of}
use Rattle.league.specs.Venues.{games_on}
use Rattle.league.specs.declared.class.Side.TheVariants.{Both}
use Rattle.command_show.specs.Blocks.{blocks_of}
use Rattle.command_show.specs.Cell.{games_text}
use Rattle.command_show.specs.Grid.{slots_in}
use Rattle.command_show.specs.Tallies.{breaks_in_all}

-- The cell of team i and slot s names team j exactly where the team's one game in the slot is against j: with the number
-- alone at home to j, and with `@` before it away at j.
pub record NamesItsGame (n : ℕ) (m : Counts) (i s j : ℕ) : Type 0 where
  pub at_home : (games_text n m i s ≡ decimal j) ↔ ((games_on n m Both i s ≡ 1) × (0 < m i j s))
  pub away : (games_text n m i s ≡ codes "@" ++ decimal j) ↔ ((games_on n m Both i s ≡ 1) × (0 < m j i s))

-- each cell names the game of its team in its slot
abbrev pub CellsNameGames : Type 0
CellsNameGames = (n : ℕ) (m : Counts) (i s j : ℕ) → n ≤ 40 → j < n → NamesItsGame n m i s j

-- each slot of the season stands in one block, and the slots stand in order
abbrev pub BlocksHoldSlots : Type 0
BlocksHoldSlots = (n room : ℕ) → 1 < n → 0 < room → flat_map slots_in (blocks_of n room) ≡ slots_of n

-- the breaks in the table are together all breaks of the season
abbrev pub TalliesAddUp : Type 0
TalliesAddUp = (n : ℕ) (m : Counts) → sum_by (breaks_in_all n m) (teams_of n) ≡ all_breaks n m (teams_of n) (slots_of n)
