use Rattle.std.proofs.Common.{◌≡◌, ◌++◌, drop}
use Rattle.std.specs.List.{flat_map}
use Rattle.robinx.specs.Attributes.{attribute_text}
use Rattle.robinx.specs.SeenValues.{attributes_of}
use Rattle.robinx.proofs.write_tag.put_attributes.Given as goal

-- the text so far, and then the attributes that are left, is the whole
abbrev pub invariant-loop-attribute : goal.invariant-loop-attribute
invariant-loop-attribute l = l.text.items ++ flat_map attribute_text (attributes_of (drop l.attribute-index l.attributes)) ≡ l.fn.text.items ++ flat_map attribute_text (attributes_of l.attributes)
