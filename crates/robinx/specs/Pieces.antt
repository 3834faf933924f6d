-- The pieces of a file, with the line on which each begins.
use Rattle.std.specs.Prelude.{ℕ, zero, suc, ◌+◌, ◌-◌, Bool, true, false, ◌==◌, if◌then◌else◌, List, [], ◌∷◌}
use Rattle.std.specs.Prelude.{length, drop, Option, Some, None, Result, Ok, Err, nat_eq, codes}
use Rattle.std.specs.List.{starts_with}
use Rattle.std.specs.Str.{byte}
use Rattle.robinx.specs.Bytes.{line_feed}
use Rattle.robinx.specs.Fronts.{◌>>=◌, Front, until}
use Rattle.robinx.specs.Tags.{Attribute, end_tag, start_tag, tag_attributes}
use Rattle.robinx.specs.declared.tag_fault.FormKind.{FormKind}
use Rattle.robinx.specs.declared.tag_fault.FormKind.TheVariants.{BadTag, Truncated}
use Rattle.robinx.specs.declared.opening.Opening.{Opening}
use Rattle.robinx.specs.declared.opening.Opening.TheVariants.{Comment, Declaration, Reserved}
use Rattle.robinx.specs.declared.opening.Opening.TheVariants.{EndTag, StartTag, Content}
use Rattle.robinx.specs.declared.tag.TagKind.{TagKind}
use Rattle.robinx.specs.declared.tag.TagKind.TheVariants.{End, Text}

-- A piece: an end tag has no attributes, a text no name, and a tag no text.
pub record Piece : Type 0 where
  pub kind : TagKind
  pub name : List ℕ
  pub attributes : List Attribute
  pub text : List ℕ
  pub line : ℕ

-- How the pieces of a file end: with the file, or with the first fault, on this line.
pub data Last : Type 0 where
  Ends : (line : ℕ) → Last
  Faulty : (kind : FormKind) → (line : ℕ) → Last

-- What a file has: its pieces up to its end or its first fault.
pub record Pieces : Type 0 where
  pub items : List Piece
  pub last : Last
  -- how many whole attributes stand before the fault in its tag; 0 where there is no fault, or it is no start tag's
  pub before_fault : ℕ

-- no pieces
abbrev pub none_but : Last → Pieces
none_but last = record { items = []; last = last; before_fault = 0 }

-- no pieces but a fault, with so many whole attributes before it
abbrev pub fault_after : ℕ → FormKind → ℕ → Pieces
fault_after before kind line = record { items = []; last = Faulty kind line; before_fault = before }

-- a piece before others
abbrev pub onto : Piece → Pieces → Pieces
onto piece others = record others { items = piece ∷ others.items }

-- whether the bytes begin with this text
abbrev pub begins : List ℕ → List ℕ → Bool
begins text bytes = starts_with nat_eq bytes text

-- the bytes after the first place at which this text stands
abbrev pub after_text : List ℕ → List ℕ → Option (List ℕ)
after_text text [] = None
after_text text (b ∷ bytes) = elim (begins text (b ∷ bytes)) [
  | true ↦ Some (drop (length text) (b ∷ bytes))
  | false ↦ after_text text bytes
]

-- what begins at a place, and the bytes after its mark
abbrev pub opening_at : List ℕ → Opening × List ℕ
opening_at bytes =
    if begins (codes "<!--") bytes then (Comment, drop 4 bytes)
    else if begins (codes "<?") bytes then (Declaration, drop 2 bytes)
    else if begins (codes "<!") bytes then (Reserved, drop 2 bytes)
    else if begins (codes "</") bytes then (EndTag, drop 2 bytes)
    else if begins (codes "<") bytes then (StartTag, drop 1 bytes)
    else (Content, bytes)

-- what stands at a place: a piece, or None where it is passed over
abbrev pub Found : Type 0
Found = Front (Option Piece)

-- what is passed over, up to and with this text
abbrev pub passed_to : List ℕ → List ℕ → Found
passed_to text bytes = elim (after_text text bytes) [ None ↦ Err Truncated | Some rest ↦ Ok (None, rest) ]

-- a comment after `<!--`
abbrev pub comment : List ℕ → Found
comment bytes = passed_to (codes "-->") bytes

-- a declaration after `<?`
abbrev pub declaration : List ℕ → Found
declaration bytes = passed_to (codes "?>") bytes

-- an End piece after `</`
abbrev pub end_piece : ℕ → List ℕ → Found
end_piece line bytes = do
  name ← end_tag bytes
  Ok (Some (record { kind = End; name = name.0; attributes = []; text = []; line = line }), name.1)

-- a Start or an Empty piece after `<`
abbrev pub start_piece : ℕ → List ℕ → Found
start_piece line bytes = do
  tag ← start_tag bytes
  Ok (Some (record { kind = tag.0.0; name = tag.0.1; attributes = tag.0.2; text = []; line = line }), tag.1)

-- a Text piece: what stands before the next `<`
abbrev pub text_piece : ℕ → List ℕ → Found
text_piece line bytes =
    let text = until (λ b. b == byte "<") bytes in
    Ok (Some (record { kind = Text; name = []; attributes = []; text = text.0; line = line }), text.1)

-- what goes on behind its mark, where its first byte stands on this line
abbrev pub piece_of : Opening → ℕ → List ℕ → Found
piece_of Comment line bytes = comment bytes
piece_of Declaration line bytes = declaration bytes
piece_of Reserved line bytes = Err BadTag
piece_of EndTag line bytes = end_piece line bytes
piece_of StartTag line bytes = start_piece line bytes
piece_of Content line bytes = text_piece line bytes

abbrev pub piece_at : ℕ → List ℕ → Found
piece_at line bytes = piece_of (opening_at bytes).0 line (opening_at bytes).1

-- how many whole attributes stand in what begins here, up to its end or its fault: only start tags have some
abbrev pub attributes_in : Opening → List ℕ → ℕ
attributes_in Comment bytes = 0
attributes_in Declaration bytes = 0
attributes_in Reserved bytes = 0
attributes_in EndTag bytes = 0
attributes_in StartTag bytes = tag_attributes bytes
attributes_in Content bytes = 0

abbrev pub attributes_here : List ℕ → ℕ
attributes_here bytes = attributes_in (opening_at bytes).0 (opening_at bytes).1

-- the line after a byte
abbrev pub line_after : ℕ → ℕ → ℕ
line_after line b = if b == line_feed then line + 1 else line

-- what stands at a place, before the pieces after it
abbrev pub with_piece : Option Piece → Pieces → Pieces
with_piece None others = others
with_piece (Some piece) others = onto piece others

-- what is read at these bytes on this line, where `others` are the pieces from the bytes after it on
abbrev pub go_on : ℕ → List ℕ → Result (Option Piece × List ℕ) FormKind → (List ℕ → Pieces) → Pieces
go_on line bytes (Err kind) others = fault_after (attributes_here bytes) kind line
go_on line bytes (Ok found) others = with_piece found.0 (others found.1)

-- The pieces from a place on this line on. Of the bytes, so many still belong to what began before them.
unfoldable pub pieces_from : ℕ → ℕ → List ℕ → Pieces
pieces_from line inside [] = none_but (Ends line)
pieces_from line (suc inside) (b ∷ bytes) = pieces_from (line_after line b) inside bytes
pieces_from line zero (b ∷ bytes) =
    go_on line (b ∷ bytes) (piece_at line (b ∷ bytes))
    (λ rest. pieces_from (line_after line b) (length bytes - length rest) bytes)

-- the bytes without a byte order mark
abbrev pub without_mark : List ℕ → List ℕ
without_mark bytes = if begins (239 ∷ 187 ∷ 191 ∷ []) bytes then drop 3 bytes else bytes

-- the pieces of a file: its first line is line 1
abbrev pub pieces : List ℕ → Pieces
pieces bytes = pieces_from 1 0 (without_mark bytes)
