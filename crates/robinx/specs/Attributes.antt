-- Tags of a file that is written, and their attributes.
use Prim.Native.String.{String}
use Rattle.std.specs.Prelude.{ℕ, List, ◌++◌, map, codes, decimal}
use Rattle.std.specs.List.{flat_map, join_with_byte}
use Rattle.std.specs.Str.{byte}
use Rattle.robinx.specs.Tags.{Attribute}

-- an attribute that is a word
abbrev pub word : String → String → Attribute
word name value = record { name = codes name; value = codes value }

-- an attribute that is a number
abbrev pub count : String → ℕ → Attribute
count name n = record { name = codes name; value = decimal n }

-- an attribute that is a list of numbers, with `;` between them
abbrev pub ids : String → List ℕ → Attribute
ids name numbers = record { name = codes name; value = join_with_byte (byte ";") (map decimal numbers) }

-- an attribute that is a list of meetings, each followed by `;`
abbrev pub pairs : String → List (ℕ × ℕ) → Attribute
pairs name meetings =
    let meeting_text : ℕ × ℕ → List ℕ = λ p. decimal p.0 ++ (codes "," ++ (decimal p.1 ++ codes ";")) in
    record { name = codes name; value = flat_map meeting_text meetings }

-- an attribute with the space before it
abbrev pub attribute_text : Attribute → List ℕ
attribute_text a = codes " " ++ (a.name ++ (codes "=\"" ++ (a.value ++ codes "\"")))

-- a line with one Empty tag
abbrev pub tag_line : List ℕ → List Attribute → List ℕ
tag_line name attributes = codes "<" ++ (name ++ (flat_map attribute_text attributes ++ codes "/>\n"))
