-- Texts in columns. The width of a text is the number of its characters.
use Rattle.std.specs.Prelude.{ℕ, ◌-◌, ◌==◌, List, ◌++◌, length, take, replicate, codes}
use Rattle.std.specs.List.{suffix_len}
use Rattle.std.specs.Str.{byte, chars, encode_utf8_all}

-- how many characters a text has
abbrev pub width_of : List ℕ → ℕ
width_of text = length (chars text)

-- the first characters of a text, so many at most
abbrev pub front_of : ℕ → List ℕ → List ℕ
front_of k text = encode_utf8_all (take k (chars text))

-- so many spaces
abbrev pub spaces : ℕ → List ℕ
spaces k = replicate k (byte " ")

-- an ASCII text at the right of so many places
abbrev pub at_right : ℕ → List ℕ → List ℕ
at_right places text = spaces (places - length text) ++ text

-- a line, without spaces at its end
abbrev pub line : List ℕ → List ℕ
line text = take (length text - suffix_len (λ b. b == byte " ") text) text ++ codes "\n"
