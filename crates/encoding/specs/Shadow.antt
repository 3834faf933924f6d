-- From schedules to assignments and back (own encoding).
use Rattle.std.specs.Prelude.{◌≡◌, ◌≢◌, ◌<◌, true, ℕ, Bool, nat_lt, List, map}
use Rattle.std.specs.List.{filter, flat_map}
use Rattle.league.specs.Breaks.{is_away_break, is_home_break}
use Rattle.league.specs.Counts.{Counts, slot_count, slots_of}
use Rattle.league.specs.Meetings.{meetings_of}
use Rattle.league.specs.Venues.{home_games}
use Rattle.league.specs.declared.game.Game.{Game}
use Rattle.encoding.specs.Variables.{ab_var, h_var, hb_var, x_var}

-- an assignment is a schedule's shadow: x(i,j,s) is true where the game takes place, h(i,s) where team i has a home
-- game, and, where breaks have variables, hb(i,s) and ab(i,s) where it has the break
pub record IsShadow (n : ℕ) (breaks : Bool) (m : Counts) (values : ℕ → Bool) : Type 0 where
  pub games : (i j s : ℕ) → i < n → j < n → i ≢ j → s < slot_count n → values (x_var n i j s) ≡ nat_lt 0 (m i j s)
  pub venues : (i s : ℕ) → i < n → s < slot_count n → values (h_var n i s) ≡ nat_lt 0 (home_games n m i s)
  pub home_breaks : breaks ≡ true → (i s : ℕ) → i < n → 0 < s → s < slot_count n →
      values (hb_var n i s) ≡ is_home_break n m i s
  pub away_breaks : breaks ≡ true → (i s : ℕ) → i < n → 0 < s → s < slot_count n →
      values (ab_var n i s) ≡ is_away_break n m i s

-- a game from its parts
abbrev pub game_of : ℕ × ℕ → ℕ → Game
game_of p s = record { home = record { 0 = p.0 }; away = record { 0 = p.1 }; slot = record { 0 = s } }

-- all games that can take place, by slot, home team and away team
abbrev pub all_games : ℕ → List Game
all_games n = flat_map (λ s. map (λ p. game_of p s) (meetings_of n)) (slots_of n)

-- the games whose x is true
abbrev pub decoded : ℕ → (ℕ → Bool) → List Game
decoded n values = filter (λ g. values (x_var n g.home.0 g.away.0 g.slot.0)) (all_games n)
