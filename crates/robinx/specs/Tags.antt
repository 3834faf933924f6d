-- Tags: what stands after `<` or `</`.
use Rattle.std.specs.Prelude.{ℕ, zero, suc, Bool, true, not, ◌&&◌, ◌||◌, ◌==◌, if◌then◌else◌, List, [], ◌∷◌, ◌++◌, ◌+◌}
use Rattle.std.specs.Prelude.{Option, Some, None, Ok, Err, codes, bytes_eq, option_map}
use Rattle.std.specs.List.{list_any, find}
use Rattle.std.specs.Result.{result_ok}
use Rattle.std.specs.Str.{byte}
use Rattle.robinx.specs.Bytes.{is_name_byte, is_name_start, is_one_of}
use Rattle.robinx.specs.Fronts.{◌>>=◌, Front, next, mark, until, after_white, starts_white, check}
use Rattle.robinx.specs.declared.tag_fault.FormKind.TheVariants.{BadTag, BadAttribute}
use Rattle.robinx.specs.declared.tag_fault.FormKind.TheVariants.{RepeatedAttribute, TooManyAttributes}
use Rattle.robinx.specs.declared.turn.Turn.{Turn}
use Rattle.robinx.specs.declared.turn.Turn.TheVariants.{Closes, Slash, Begins, Wrong}
use Rattle.robinx.specs.declared.tag.TagKind.{TagKind}
use Rattle.robinx.specs.declared.tag.TagKind.TheVariants.{Start, Empty}

-- an attribute of a tag, as raw bytes
pub record Attribute : Type 0 where
  pub name : List ℕ
  pub value : List ℕ

-- so many attributes of a tag take no memory
abbrev pub without_memory : ℕ
without_memory = 8

-- the longest run of name bytes, of which the first is a name start
abbrev pub name_at : List ℕ → Front (List ℕ)
name_at bytes = do
  first ← next BadTag is_name_start bytes
  Ok (until (λ b. not (is_name_byte b)) bytes)

-- an end tag after `</`: a name, white bytes, `>`
abbrev pub end_tag : List ℕ → Front (List ℕ)
end_tag bytes = do
  name ← name_at bytes
  close ← mark BadTag (λ b. b == byte ">") name.1
  Ok (name.0, close.1)

-- a value after its quote, up to the same quote: no `<` stands in it
abbrev pub value_to : ℕ → List ℕ → Front (List ℕ)
value_to quote bytes =
    let value = until (λ b. b == quote || b == byte "<") bytes in do
      close ← next BadAttribute (λ b. b == quote) value.1
      Ok (value.0, close.1)

-- whether an attribute has this name
abbrev pub has_name : List ℕ → Attribute → Bool
has_name name attribute = bytes_eq attribute.name name

-- an attribute: a name, white bytes, `=`, white bytes, a quote, the value, the same quote; no earlier one has its name
abbrev pub attribute_at : List Attribute → List ℕ → Front Attribute
attribute_at earlier bytes = do
  name ← name_at bytes
  equals ← mark BadAttribute (λ b. b == byte "=") name.1
  quote ← mark BadAttribute (is_one_of (codes "\"'")) equals.1
  value ← value_to quote.0 quote.1
  new ← check (not (list_any (has_name name.0) earlier)) RepeatedAttribute
  Ok (record { name = name.0; value = value.0 }, value.1)

-- what a byte after a name or an attribute does, white bytes standing before it or not
abbrev pub turn_of : Bool → ℕ → Turn
turn_of white b =
    if b == byte ">" then Closes
    else if b == byte "/" then Slash
    else if white && is_name_start b then Begins
    else Wrong

-- what the next byte after white bytes does, and the bytes after it
abbrev pub turn_at : List ℕ → Front Turn
turn_at bytes = do
  b ← mark BadTag (λ b. true) bytes
  Ok (turn_of (starts_white bytes) b.0, b.1)

-- after a turn: how the tag ends and the bytes after it, or None where an attribute begins and the bytes from there
abbrev pub end_by : Turn → List ℕ → List ℕ → Front (Option TagKind)
end_by Closes begin after = Ok (Some Start, after)
end_by Slash begin after = do
  close ← next BadTag (λ b. b == byte ">") after
  Ok (Some Empty, close.1)
end_by Begins begin after = Ok (None, begin)
end_by Wrong begin after = Err BadTag

abbrev pub end_at : List ℕ → Front (Option TagKind)
end_at bytes = do
  turn ← turn_at bytes
  end_by turn.0 (after_white bytes) turn.1

-- the rest of a tag that has these attributes, and may have so many more: which of the two tags it is, and them all
unfoldable pub attributes_at : ℕ → List Attribute → List ℕ → Front (TagKind × List Attribute)
attributes_at zero earlier bytes = do
  end ← end_at bytes
  elim end.0 [ Some kind ↦ Ok ((kind, earlier), end.1) | None ↦ Err TooManyAttributes ]
attributes_at (suc left) earlier bytes = do
  end ← end_at bytes
  elim end.0 [
    | Some kind ↦ Ok ((kind, earlier), end.1)
    | None ↦ do
      attribute ← attribute_at earlier end.1
      attributes_at left (earlier ++ attribute.0 ∷ []) attribute.1
  ]

-- what a tag goes on with: an attribute and the bytes after it, or None where the tag ends or has a fault
abbrev pub attribute_by : List Attribute → Front (Option TagKind) → Option (Attribute × List ℕ)
attribute_by earlier (Ok (None, begin)) = result_ok (attribute_at earlier begin)
attribute_by earlier (Ok (Some kind, after)) = None
attribute_by earlier (Err kind) = None

-- how many whole attributes a tag has behind these, up to its end, its fault, or this limit
unfoldable pub more_attributes : ℕ → List Attribute → List ℕ → ℕ
more_attributes zero earlier bytes = 0
more_attributes (suc left) earlier bytes = elim (attribute_by earlier (end_at bytes)) [
  | Some found ↦ 1 + more_attributes left (earlier ++ found.0 ∷ []) found.1
  | None ↦ 0
]

-- how many whole attributes a tag has behind its name, up to its end or its fault; 0 where the name is at fault
abbrev pub attributes_behind : Front (List ℕ) → ℕ
attributes_behind (Ok (name, bytes)) = more_attributes 64 [] bytes
attributes_behind (Err kind) = 0

-- how many whole attributes a start tag or an empty tag has after `<`
abbrev pub tag_attributes : List ℕ → ℕ
tag_attributes bytes = attributes_behind (name_at bytes)

-- a start tag or an empty tag after `<`: a name, then at most 64 attributes
abbrev pub start_tag : List ℕ → Front (TagKind × List ℕ × List Attribute)
start_tag bytes = do
  name ← name_at bytes
  ending ← attributes_at 64 [] name.1
  Ok ((ending.0.0, name.0, ending.0.1), ending.1)

-- the value of the first of these attributes that has this name
abbrev pub value_of : List ℕ → List Attribute → Option (List ℕ)
value_of name attributes = option_map (λ attribute. attribute.value) (find (has_name name) attributes)
