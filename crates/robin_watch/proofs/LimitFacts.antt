-- Worked limits, so that a wrong definition of what a run kept to does not check.
use Rattle.std.proofs.Common.{◌≡◌, ◌<◌, ℕ, zero, suc, Bool, true, false, Option, Some, None, inl, inr, refl, arith}
use Rattle.robin_watch.specs.Limits.{EndsAt, IsKeptTo, lower_limit}

-- the limit that was set, whether or not the run may be stopped
pub kept-set : IsKeptTo (Some 5) ⊥ (Some 5) × IsKeptTo (Some 5) (Unit {0}) (Some 5) × IsKeptTo None ⊥ None
kept-set = (inl refl, inl refl, inl refl)

-- a lower one where it may be stopped, or one where none was set
pub kept-lower : IsKeptTo (Some 5) (Unit {0}) (Some 3) × IsKeptTo None (Unit {0}) (Some 3)
kept-lower = (inr (tt, (3, refl, omega arith)), inr (tt, (3, refl, tt)))

-- no lower one where nothing may stop it
pub kept-unstopped : IsKeptTo (Some 5) ⊥ (Some 3) → ⊥
kept-unstopped (inl same) = cc
kept-unstopped (inr lower) = lower.0

-- no higher one, and never none in place of one
pub kept-higher : IsKeptTo (Some 5) (Unit {0}) (Some 6) → ⊥
kept-higher (inl same) = cc
kept-higher (inr (may, (k, is, below))) = let same : 6 ≡ k = cc in omega (arith, same, below)

pub kept-none : IsKeptTo (Some 5) (Unit {0}) None → ⊥
kept-none (inl same) = cc
kept-none (inr (may, (k, is, below))) = cc

-- a watch that goes on at turns 0 and 1, ends a run at turn 2, and says nothing of later turns
pub plan : ℕ → Option Bool
plan zero = Some false
plan (suc zero) = Some false
plan (suc (suc zero)) = Some true
plan (suc (suc (suc n))) = None

before_two : (turns : ℕ) → turns < 2 → plan turns ≡ Some false
unfolding plan
before_two zero less = refl
before_two (suc zero) less = refl
before_two (suc (suc n)) less = absurd (omega (arith, less))

-- its turn, none before it, none behind it, and not that there is none
pub ends-planned : EndsAt plan (Some 2)
unfolding plan
ends-planned = (refl, before_two)

pub ends-early : EndsAt plan (Some 1) → ⊥
unfolding plan
ends-early ends = let on : plan 1 ≡ Some false = refl in cc

pub ends-late : EndsAt plan (Some 3) → ⊥
unfolding plan
ends-late ends = let on : plan 3 ≡ None = refl in cc

pub ends-never : EndsAt plan None → ⊥
unfolding plan
ends-never ends = let on : plan 2 ≡ Some true = refl in let no : plan 2 ≡ Some false = ends 2 in cc

-- a watch that goes on at each turn ends at none
pub ends-none : EndsAt (λ turns. Some false) None × (EndsAt (λ turns. Some false) (Some 0) → ⊥)
ends-none = ((λ turns. refl), (λ ends. cc))

-- the lower limit of two, in either order, and where there is one alone
pub lower-both : (lower_limit (Some 5) (Some 3) ≡ Some 3) × (lower_limit (Some 3) (Some 5) ≡ Some 3)
lower-both = (refl, refl)

pub lower-one : (lower_limit (Some 5) None ≡ Some 5) × (lower_limit None (Some 3) ≡ Some 3)
    × (lower_limit None None ≡ None)
lower-one = (refl, refl, refl)
