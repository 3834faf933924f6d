-- Named values as attributes, without where they lie in memory.
use Rattle.std.specs.Prelude.{ℕ, List, ◌++◌, map, codes, decimal}
use Rattle.std.specs.List.{flat_map, join_with_byte}
use Rattle.std.specs.Str.{byte}
use Rattle.robinx.specs.Tags.{Attribute}
use Rattle.robinx.specs.declared.write_tag.Value.{Value}
use Rattle.robinx.specs.declared.write_tag.Value.TheVariants.{Word, Count, Ids, Pairs}
use Rattle.robinx.specs.declared.write_tag.NamedValue.{NamedValue}

-- an id behind another in a list
abbrev pub further_text : ℕ → List ℕ
further_text n = codes ";" ++ decimal n

-- a meeting in a list
abbrev pub pair_text : ℕ × ℕ → List ℕ
pair_text p = decimal p.0 ++ (codes "," ++ (decimal p.1 ++ codes ";"))

-- the text of a value
abbrev pub value_text : Value → List ℕ
value_text (Word word) = word.now
value_text (Count n) = decimal n
value_text (Ids ids) = join_with_byte (byte ";") (map decimal ids.now)
value_text (Pairs pairs) = flat_map pair_text pairs.now

-- named values as attributes
abbrev pub attribute_of : NamedValue → Attribute
attribute_of named = record { name = named.0.now; value = value_text named.1 }

abbrev pub attributes_of : List NamedValue → List Attribute
attributes_of values = map attribute_of values
