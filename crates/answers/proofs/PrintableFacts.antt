-- What is printable, so that a wrong definition does not check.
use Rattle.std.proofs.Common.{◌≡◌, true, false, [], ◌∷◌, codes, refl}
use Rattle.answers.specs.Printable.{is_printable}

-- lines of ASCII, and a letter of each alphabet: U+00C0, U+00F6, U+03B1, U+044F, U+053F
pub printable-some : (is_printable [] ≡ true)
    × (is_printable (codes "a ~\n") ≡ true)
    × (is_printable (195 ∷ 128 ∷ []) ≡ true)
    × (is_printable (97 ∷ 195 ∷ 182 ∷ 98 ∷ []) ≡ true)
    × (is_printable (206 ∷ 177 ∷ []) ≡ true)
    × (is_printable (209 ∷ 143 ∷ []) ≡ true)
    × (is_printable (212 ∷ 191 ∷ []) ≡ true)
printable-some = (refl, refl, refl, refl, refl, refl, refl)

-- a tab, a CR, an escape, DEL, U+0080, half a letter, and marks that turn text: U+061C, U+200F, U+202E
pub printable-none : (is_printable (9 ∷ []) ≡ false)
    × (is_printable (97 ∷ 13 ∷ []) ≡ false)
    × (is_printable (27 ∷ codes "[2J") ≡ false)
    × (is_printable (127 ∷ []) ≡ false)
    × (is_printable (194 ∷ 128 ∷ []) ≡ false)
    × (is_printable (195 ∷ []) ≡ false)
    × (is_printable (195 ∷ 97 ∷ []) ≡ false)
    × (is_printable (216 ∷ 156 ∷ []) ≡ false)
    × (is_printable (226 ∷ 128 ∷ 143 ∷ []) ≡ false)
    × (is_printable (226 ∷ 128 ∷ 174 ∷ []) ≡ false)
printable-none = (refl, refl, refl, refl, refl, refl, refl, refl, refl, refl)
