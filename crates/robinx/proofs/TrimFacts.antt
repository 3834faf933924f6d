-- Worked examples, so that a wrong definition of white bytes at the ends does not check.
use Rattle.std.proofs.Common.{◌≡◌, [], ◌∷◌, refl}
use Rattle.std.specs.Prelude.{codes}
use Rattle.robinx.specs.Fronts.{trimmed}

-- white bytes within a text stay
pub trimmed-ends : trimmed (codes " \t a b\r\n") ≡ codes "a b"
trimmed-ends = refl

pub trimmed-white : trimmed (codes " \t\r\n ") ≡ []
trimmed-white = refl

pub trimmed-empty : trimmed [] ≡ []
trimmed-empty = refl

pub trimmed-nothing : trimmed (codes "a") ≡ codes "a"
trimmed-nothing = refl

-- the bytes 11 and 12 lie between LF and CR, and aren't white
pub trimmed-tab_down : trimmed (11 ∷ 32 ∷ 12 ∷ []) ≡ 11 ∷ 32 ∷ 12 ∷ []
trimmed-tab_down = refl
