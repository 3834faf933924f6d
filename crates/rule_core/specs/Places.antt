-- What a team does in a slot in which it has at most one game.
use Rattle.std.specs.Prelude.{ℕ, Bool, false, ◌==◌}
use Rattle.rule_core.specs.declared.place.Place.{Place}
use Rattle.rule_core.specs.declared.place.Place.TheVariants.{Home, Away}

-- whether a team in this place is at home to team j
abbrev pub hosts : Place → ℕ → Bool
hosts (Home guest) j = guest.0 == j
hosts other j = false

-- whether a team in this place is away at team i
abbrev pub visits : Place → ℕ → Bool
visits (Away host) i = host.0 == i
visits other i = false
