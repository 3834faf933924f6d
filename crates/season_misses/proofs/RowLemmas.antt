-- The rows of reasons, one after another.
use Rattle.std.proofs.Common.{◌≡◌, ℕ, suc, List, [], ◌∷◌, refl}
use Rattle.season_misses.specs.declared.reason.Reason.{Reason}
use Rattle.season_misses.specs.Rows.{more_windows, rows_from}

-- a reason that goes on from one before it
pub rows_from-told : (told : ℕ) (reason : Reason) (reasons : List Reason) → rows_from (suc told) (reason ∷ reasons) ≡ rows_from told reasons
unfolding rows_from
rows_from-told told reason reasons = refl

-- a reason that doesn't
pub rows_from-next : (reason : Reason) (reasons : List Reason) → rows_from 0 (reason ∷ reasons) ≡ record { reason = reason; more = more_windows reason reasons } ∷ rows_from (more_windows reason reasons) reasons
unfolding rows_from
rows_from-next reason reasons = refl

pub rows_from-none : (told : ℕ) → rows_from told [] ≡ []
unfolding rows_from
rows_from-none told = refl
