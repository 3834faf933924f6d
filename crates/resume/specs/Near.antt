-- How far one season is from another in the slots to come.
use Rattle.std.specs.Prelude.{◌≡◌, ◌⊎◌, ℕ, true, false, List}
use Rattle.std.specs.List.{count_by}
use Rattle.league.specs.Counts.{counts_of}
use Rattle.league.specs.declared.game.Game.{Game}
use Rattle.league.specs.Instance.{Instance}
use Rattle.resume.specs.Nearing.{IsNearest}
use Rattle.resume.specs.declared.near.Neared.{Neared}
pub use Rattle.resume.specs.Changed.{IsAtMost, changed_on, is_changed, is_open}
use Rattle.resume.specs.declared.resumed.Resumed.{Resumed}
use Rattle.resume.specs.declared.resumed.Resumed.TheVariants.{Schedule, Refuted, Spent}

-- how many games of a list are still to come
abbrev pub open_games : ℕ → List Game → ℕ
open_games k old = count_by (is_open k) old

-- how many games of an old list are still to come and don't take place in a new one
abbrev pub changed : ℕ → List Game → List Game → ℕ
changed k old games = changed_on k old (counts_of games)

-- an answer is no farther from the old games than a first one: a schedule gives way only to one that changes fewer
-- games, or as many at no higher cost
abbrev pub IsNoFarther : ℕ → List Game → Resumed → Resumed → Type 0
IsNoFarther k old (Schedule first cost) (Schedule games objective) =
    IsAtMost (changed k old games) objective (changed k old first) cost
IsNoFarther k old (Schedule first cost) (Refuted log) = ⊥
IsNoFarther k old (Schedule first cost) (Spent log) = ⊥
IsNoFarther k old (Refuted first) answer = answer ≡ Refuted first
IsNoFarther k old (Spent first) (Schedule games objective) = Unit {0}
IsNoFarther k old (Spent first) (Refuted log) = ⊥
IsNoFarther k old (Spent first) (Spent log) = log ≡ first

-- an answer refutes, or is a schedule that is no farther from the old games than some games of this cost
abbrev pub IsAsNear : ℕ → List Game → List Game → ℕ → Resumed → Type 0
IsAsNear k old near price (Schedule games objective) =
    IsAtMost (changed k old games) objective (changed k old near) price
IsAsNear k old near price (Refuted log) = Unit {0}
IsAsNear k old near price (Spent log) = ⊥

-- no single move that leaves the first k slots alone leads from an answer's schedule to one that the league accepts and
-- that changes fewer games of the old ones, or as many at a lower cost
abbrev pub IsNearestAnswer : Instance → ℕ → List Game → Resumed → Type 0
IsNearestAnswer league k old (Schedule games objective) = IsNearest league k old (counts_of games)
IsNearestAnswer league k old (Refuted log) = ⊥
IsNearestAnswer league k old (Spent log) = ⊥

-- where an answer is said to be settled, it is
abbrev pub IsSettledNear : Instance → ℕ → List Game → Neared → Type 0
IsSettledNear league k old near = near.settled ≡ true → IsNearestAnswer league k old near.answer

-- where it isn't said to be, a single move betters its schedule, or it has none; unless the run may be stopped
abbrev pub IsOpenNear : Instance → ℕ → List Game → Type 0 → Neared → Type 0
IsOpenNear league k old may_stop near =
    near.settled ≡ false → may_stop ⊎ (IsNearestAnswer league k old near.answer → ⊥)
