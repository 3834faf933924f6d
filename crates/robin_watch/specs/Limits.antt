-- The limit that a run kept to.
use Rattle.std.specs.Prelude.{◌≡◌, ◌<◌, ◌≤◌, ◌⊎◌, ℕ, Bool, true, false, min, Option, None, Some, IfSome}

-- the limit that was set, or, where the run may be stopped, a lower one
abbrev pub IsKeptTo : Option ℕ → Type 0 → Option ℕ → Type 0
IsKeptTo limit may_stop kept =
    (kept ≡ limit) ⊎ (may_stop × ((k : ℕ) × (kept ≡ Some k) × IfSome limit (λ most. k ≤ most)))

-- The watch says beforehand that this turn is the first at which it ends a run, or, without a turn, that it ends none.
abbrev pub EndsAt : (ℕ → Option Bool) → Option ℕ → Type 0
EndsAt stops_at None = (turns : ℕ) → stops_at turns ≡ Some false
EndsAt stops_at (Some first) = (stops_at first ≡ Some true) × ((turns : ℕ) → turns < first → stops_at turns ≡ Some false)

-- the lower of two limits; None is no limit
abbrev pub lower_limit : Option ℕ → Option ℕ → Option ℕ
lower_limit None other = other
lower_limit (Some most) None = Some most
lower_limit (Some most) (Some other) = Some (min most other)
