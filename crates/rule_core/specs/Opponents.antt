-- The table of what each team does in each slot.
use Rattle.std.specs.Prelude.{◌≡◌, ◌≢◌, ◌⊎◌, ℕ, ◌+◌, ◌*◌, ◌<◌, Bool, true, false, nat_lt, if◌then◌else◌, List}
use Rattle.std.specs.Prelude.{slice_index_or}
use Rattle.league.specs.Sets.{is_in}
use Rattle.league.specs.declared.game.Game.{Game}
use Rattle.rule_core.specs.Places.{hosts, visits}
use Rattle.rule_core.specs.declared.place.Place.{Place}
use Rattle.rule_core.specs.declared.place.Place.TheVariants.{Free, Home, Away}

-- whether a place is free, of a home game, or of an away game
abbrev pub is_free : Place → Bool
is_free Free = true
is_free other = false

abbrev pub is_home : Place → Bool
is_home (Home guest) = true
is_home other = false

abbrev pub is_away : Place → Bool
is_away (Away host) = true
is_away other = false

-- whether a team in this place is at home to one of these teams, and whether it is away at one
abbrev pub hosts_any : List ℕ → Place → Bool
hosts_any teams (Home guest) = is_in guest.0 teams
hosts_any teams other = false

abbrev pub visits_any : List ℕ → Place → Bool
visits_any teams (Away host) = is_in host.0 teams
visits_any teams other = false

-- the place of team i in slot s, in rows of so many slots: free where there is none
abbrev pub place_at : ℕ → List Place → ℕ → ℕ → Place
place_at slots places i s = if nat_lt s slots then slice_index_or places (i * slots + s) Free else Free

-- a game is put where both its teams were free, and all else is the same
pub record IsPut (g : Game) (before after : ℕ → ℕ → Place) : Type 0 where
  pub home_free : before g.home.0 g.slot.0 ≡ Free
  pub away_free : before g.away.0 g.slot.0 ≡ Free
  pub home : after g.home.0 g.slot.0 ≡ Home g.away
  pub away : after g.away.0 g.slot.0 ≡ Away g.home
  pub others : (i s : ℕ) → (s ≢ g.slot.0) ⊎ ((i ≢ g.home.0) × (i ≢ g.away.0)) → after i s ≡ before i s

-- who is at home to a team is the one at whom that team is away, and both are teams of the league
pub record AreMirrored (n : ℕ) (places : ℕ → ℕ → Place) : Type 0 where
  pub same : (i j s : ℕ) → hosts (places i s) j ≡ visits (places j s) i
  pub teams : (i j s : ℕ) → hosts (places i s) j ≡ true → (i < n) × (j < n)
