-- Worked names, so that a wrong definition does not check.
use Rattle.std.proofs.Common.{◌≡◌, true, false, [], ◌∷◌, ◌++◌, refl}
use Rattle.std.specs.Prelude.{codes, replicate}
use Rattle.std.specs.Str.{chars, is_utf8}
use Rattle.std.specs.Str.Lossy.{utf8_lossy, utf8_valid_len, utf8_error_len}
use Rattle.robinx.specs.Plain.{expanded_from, expanded, is_unprinted, printed, shortened, characters_of}

-- each entity is expanded once, from left to right, and nothing else that begins with `&`
pub expanded-entities : expanded (codes "&lt;&gt;&quot;&apos;&amp;") ≡ codes "<>\"'&"
unfolding expanded_from
expanded-entities = refl

pub expanded-once : expanded (codes "&amp;lt;") ≡ codes "&lt;"
unfolding expanded_from
expanded-once = refl

pub expanded-others : expanded (codes "&#27;&LT;&lt&;&") ≡ codes "&#27;&LT;&lt&;&"
unfolding expanded_from
expanded-others = refl

-- the ends of ranges of characters that aren't printed, and their neighbours
pub is_unprinted-low : (is_unprinted 0x1F ≡ true) × (is_unprinted 0x20 ≡ false) × (is_unprinted 0x7E ≡ false) × (is_unprinted 0x7F ≡ true) × (is_unprinted 0x9F ≡ true) × (is_unprinted 0xA0 ≡ false)
is_unprinted-low = (refl, refl, refl, refl, refl, refl)

pub is_unprinted-marks : (is_unprinted 0x200E ≡ true) × (is_unprinted 0x202E ≡ true) × (is_unprinted 0x2066 ≡ true) × (is_unprinted 0x2070 ≡ false) × (is_unprinted 0x5D0 ≡ false) × (is_unprinted 0xFFFD ≡ true)
is_unprinted-marks = (refl, refl, refl, refl, refl, refl)

pub is_unprinted-high : (is_unprinted 0x1D172 ≡ false) × (is_unprinted 0x1D173 ≡ true) × (is_unprinted 0x1F600 ≡ false) × (is_unprinted 0xDFFFF ≡ false) × (is_unprinted 0xE0000 ≡ true) × (is_unprinted 0x10FFFF ≡ true)
is_unprinted-high = (refl, refl, refl, refl, refl, refl)

-- white bytes are spaces, and an escape sequence is seen as a question mark
pub printed-some : (printed 9 ≡ 32) × (printed 10 ≡ 32) × (printed 13 ≡ 32) × (printed 27 ≡ 63) × (printed 233 ≡ 233)
printed-some = (refl, refl, refl, refl, refl)

-- 40 characters stay, and of 41 the first 37 do
pub shortened-forty : shortened (replicate 40 97) ≡ replicate 40 97
shortened-forty = refl

pub shortened-more : shortened (replicate 41 97) ≡ replicate 37 97 ++ codes "..."
shortened-more = refl

-- a name in ASCII: white bytes at the ends go, those within become spaces
pub characters_of-ascii : characters_of (codes " A &amp; B\t\"old\"\r\n") ≡ codes "A & B \"old\""
unfolding expanded_from utf8_lossy utf8_valid_len is_utf8 chars lib.Utf8.encode
characters_of-ascii = refl

-- an escape sequence can't be written
pub characters_of-escape : characters_of (27 ∷ codes "[2J") ≡ codes "?[2J"
unfolding expanded_from utf8_lossy utf8_valid_len is_utf8 chars lib.Utf8.encode
characters_of-escape = refl

-- C3 A9 is é; E2 80 8F is a mark from right to left; 80 alone is no character
pub characters_of-bytes : characters_of (195 ∷ 169 ∷ 226 ∷ 128 ∷ 143 ∷ 128 ∷ []) ≡ 233 ∷ 63 ∷ 63 ∷ []
unfolding expanded_from utf8_lossy utf8_valid_len utf8_error_len is_utf8 chars lib.Utf8.encode
characters_of-bytes = refl
