-- A value of a file as a name that is printed.
use Rattle.std.specs.Prelude.{◌≡◌, ℕ, zero, suc, ◌≤◌, Bool, false, ◌&&◌, nat_le, if◌then◌else◌, List, [], ◌∷◌, ◌++◌}
use Rattle.std.specs.Prelude.{length, take, map, slice_index, codes}
use Rattle.std.specs.List.{All, list_any}
use Rattle.std.specs.Str.{byte, chars, encode_utf8_all}
use Rattle.std.specs.Str.Lossy.{utf8_lossy}
use Rattle.robinx.specs.Bytes.{is_white}
use Rattle.robinx.specs.Fronts.{trimmed}
use Rattle.robinx.specs.Pieces.{begins}

-- the byte that the front of some bytes stands for, and how many bytes behind the first belong to it: each of the five
-- entities of XML stands for one byte, and any other byte for itself
abbrev pub byte_at : List ℕ → ℕ × ℕ
byte_at bytes =
    if begins (codes "&lt;") bytes then (byte "<", 3)
    else if begins (codes "&gt;") bytes then (byte ">", 3)
    else if begins (codes "&quot;") bytes then (byte "\"", 5)
    else if begins (codes "&apos;") bytes then (byte "'", 5)
    else if begins (codes "&amp;") bytes then (byte "&", 4)
    else (slice_index bytes 0, 0)

-- the bytes with entities expanded. Of them, so many still belong to an entity that began before them.
unfoldable pub expanded_from : ℕ → List ℕ → List ℕ
expanded_from inside [] = []
expanded_from (suc inside) (b ∷ bytes) = expanded_from inside bytes
expanded_from zero (b ∷ bytes) = (byte_at (b ∷ bytes)).0 ∷ expanded_from (byte_at (b ∷ bytes)).1 bytes

-- the bytes with entities expanded, from left to right, once
abbrev pub expanded : List ℕ → List ℕ
expanded bytes = expanded_from 0 bytes

-- the first and the last of each range of characters that aren't printed: controls, marks of direction, joiners,
-- selectors, tags, private planes, and U+FFFD
abbrev pub unprinted : List (ℕ × ℕ)
unprinted =
    (0x00, 0x1F) ∷ (0x7F, 0x9F) ∷ (0xAD, 0xAD) ∷ (0x61C, 0x61C) ∷ (0x180B, 0x180F) ∷ (0x200B, 0x200F)
    ∷ (0x2028, 0x202E) ∷ (0x2060, 0x206F) ∷ (0xFE00, 0xFE0F) ∷ (0xFEFF, 0xFEFF) ∷ (0xFFF0, 0xFFFF)
    ∷ (0x1D173, 0x1D17A) ∷ (0xE0000, 0x10FFFF) ∷ []

-- whether a character isn't printed
abbrev pub is_unprinted : ℕ → Bool
is_unprinted c = list_any (λ range. nat_le range.0 c && nat_le c range.1) unprinted

-- a character as it is printed
abbrev pub printed : ℕ → ℕ
printed c = if is_white c then byte " " else if is_unprinted c then byte "?" else c

-- at most 40 characters: of more, the first 37 and three dots
abbrev pub shortened : List ℕ → List ℕ
shortened text = if nat_le (length text) 40 then text else take 37 text ++ codes "..."

-- the characters of a value as they are printed
abbrev pub characters_of : List ℕ → List ℕ
characters_of value = shortened (map printed (chars (utf8_lossy (trimmed (expanded value)))))

-- the name that a value is, in UTF-8
unfoldable pub plain : List ℕ → List ℕ
plain value = encode_utf8_all (characters_of value)

-- a name of at most 40 characters, each of which may be printed
pub record IsPlain (name : List ℕ) : Type 0 where
  pub few : length (chars name) ≤ 40
  pub printable : All (λ c. is_unprinted c ≡ false) (chars name)
