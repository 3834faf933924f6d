-- A league with its played games, and what is kept of them.
use Rattle.std.specs.Prelude.{◌≡◌, ℕ, ◌≤◌, List}
use Rattle.league.specs.Counts.{counts_of, slot_count}
use Rattle.league.specs.Instance.{Instance, IsInstance}
use Rattle.league.specs.declared.game.Game.{Game}
use Rattle.rows.specs.Rows.{Row}
use Rattle.encoding.specs.Variables.{var_count}
use Rattle.resume.specs.Kept.{resume_rows}

-- a league, a list of games, and the number of slots that are played
pub record PartlyPlayed : Type 0 where
  pub league : Instance
  pub played : List Game
  pub k : ℕ

-- their resume rows
abbrev pub rows_for : PartlyPlayed → List Row
rows_for season = resume_rows season.league (counts_of season.played) season.k

-- a system has the resume rows, and the league's variables
pub record IsSystem (season : PartlyPlayed) (rows : List Row) (vars : ℕ) : Type 0 where
  pub instance : IsInstance season.league
  pub within : season.k ≤ slot_count season.league.n
  pub rows_are : rows ≡ rows_for season
  pub vars_are : vars ≡ var_count season.league
  pub few : vars ≤ 130960
