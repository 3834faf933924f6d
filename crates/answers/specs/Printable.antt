-- What is told to a person: printable text.
use Rattle.std.specs.Prelude.{ℕ, nat_le, List, [], ◌∷◌, Bool, true, false, ◌&&◌, ◌||◌, ◌==◌, if◌then◌else◌}

-- the end of a line, or a printable ASCII character
abbrev pub is_plain : ℕ → Bool
is_plain b = (b == 10) || (nat_le 32 b && nat_le b 126)

-- two bytes of UTF-8 from U+00C0 to U+053F: the letters of Latin, Greek and Cyrillic alphabets, and their accents
abbrev pub is_letter : ℕ → ℕ → Bool
is_letter b c = (nat_le 195 b && nat_le b 212) && (nat_le 128 c && nat_le c 191)

-- only such characters: no control character but the end of a line, and no mark that turns or hides text
abbrev pub is_printable : List ℕ → Bool
is_printable [] = true
is_printable (b ∷ []) = is_plain b
is_printable (b ∷ c ∷ rest) = if is_plain b then is_printable (c ∷ rest) else is_letter b c && is_printable rest
