-- Values of variables that say the same as the counts of some games.
use Rattle.std.specs.Prelude.{◌≡◌, ◌≢◌, ℕ, ◌<◌, Bool, not, if◌then◌else◌}
use Rattle.league.specs.Breaks.{is_away_break, is_home_break}
use Rattle.league.specs.Counts.{Counts, slot_count}
use Rattle.league.specs.Venues.{away_games, home_games}
use Rattle.encoding.specs.Variables.{ab_var, h_var, hb_var, x_var}

-- each game is played once where its variable is true, and else not
abbrev pub MirrorsGames : ℕ → Counts → (ℕ → Bool) → Type 0
MirrorsGames n m values =
    (i j s : ℕ) → i < n → j < n → i ≢ j → s < slot_count n → (if values (x_var n i j s) then 1 else 0) ≡ m i j s

-- the values mirror the games, and each team has one game in each slot, at home or away as its variable says
pub record Mirrors (n : ℕ) (m : Counts) (values : ℕ → Bool) : Type 0 where
  pub games : MirrorsGames n m values
  pub home : (i s : ℕ) → i < n → s < slot_count n → (if values (h_var n i s) then 1 else 0) ≡ home_games n m i s
  pub away : (i s : ℕ) → i < n → s < slot_count n → (if not (values (h_var n i s)) then 1 else 0) ≡ away_games n m i s

-- each team has the breaks that the variables say
pub record MirrorsBreaks (n : ℕ) (m : Counts) (values : ℕ → Bool) : Type 0 where
  pub home : (i s : ℕ) → i < n → 0 < s → s < slot_count n → values (hb_var n i s) ≡ is_home_break n m i s
  pub away : (i s : ℕ) → i < n → 0 < s → s < slot_count n → values (ab_var n i s) ≡ is_away_break n m i s
