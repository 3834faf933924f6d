-- An attribute without where it lies in memory.
use Rattle.std.specs.Prelude.{List, map}
use Rattle.robinx.specs.Tags.{Attribute}
use Rattle.robinx.specs.declared.attribute.Attr.{Attr}

abbrev pub attribute_of : Attr → Attribute
attribute_of a = record { name = a.name.now; value = a.value.now }

abbrev pub attributes_of : List Attr → List Attribute
attributes_of attrs = map attribute_of attrs
