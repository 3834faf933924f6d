-- The walk over the pieces of a file, from front to back up to the first fault. It is the same for all elements.
use Rattle.std.specs.Prelude.{ℕ, Bool, true, not, if◌then◌else◌, List, [], ◌∷◌, ◌++◌, Option, Some, None}
use Rattle.std.specs.Prelude.{Result, Ok, Err, bytes_eq}
use Rattle.std.specs.List.{find, list_all, list_any}
use Rattle.robinx.specs.Fronts.{◌>>=◌, check, trimmed}
use Rattle.robinx.specs.Tags.{Attribute}
use Rattle.robinx.specs.Pieces.{Piece, Pieces, Last, Ends, Faulty}
use Rattle.robinx.specs.declared.tag.TagKind.{TagKind}
use Rattle.robinx.specs.declared.tag.TagKind.TheVariants.{Start, End, Empty, Text}
use Rattle.robinx.specs.declared.tag_fault.FormKind.{FormKind}
use Rattle.robinx.specs.declared.tag_fault.FormKind.TheVariants.{BadNesting, MissingElement, Truncated}
use Rattle.robinx.specs.Elements.{element_name, inside, unlisted, repeated, has_value}
use Rattle.robinx.specs.declared.element.Times.{Times}
use Rattle.robinx.specs.declared.element.Times.TheVariants.{Once, AtMostOnce, Any}
use Rattle.robinx.specs.declared.element.Row.{Row}
use Rattle.robinx.specs.declared.element.Element.{Element}

-- What the elements of a kind of file mean: what a Start with its attributes, and an End with the element's value,
-- make of what was read before.
pub record Meaning (Read : Type 0) : Type 0 where
  pub started : Element → List Attribute → Read → Result Read FormKind
  pub ended : Element → List ℕ → Read → Result Read FormKind

-- An element whose End is still to come: the line of its Start, the names of what may stand once in it and was read,
-- and its text.
pub record Open : Type 0 where
  pub element : Element
  pub line : ℕ
  pub seen : List (List ℕ)
  pub text : List ℕ

-- How far a walk has come: the innermost element, those around it, the name of an element in it that is being passed
-- over, and what was read.
pub record Position (Read : Type 0) : Type 0 where
  pub inner : Open
  pub outer : List Open
  pub passing : Option (List ℕ)
  pub read : Read

-- whether an element of this name was read in it
abbrev pub is_seen : Open → List ℕ → Bool
is_seen open_element name = list_any (bytes_eq name) open_element.seen

-- the row of this name
abbrev pub row_of : Element → List ℕ → Option Row
row_of element name = find (λ row. bytes_eq (element_name row.element) name) (inside element)

-- whether one more may come
abbrev pub may_come : Times → Bool → Bool
may_come Once seen = not seen
may_come AtMostOnce seen = not seen
may_come Any seen = true

-- whether it needn't come any more
abbrev pub is_met : Times → Bool → Bool
is_met Once seen = seen
is_met AtMostOnce seen = true
is_met Any seen = true

-- whether all that has to stand in it was read
abbrev pub is_complete : Open → Bool
is_complete e = list_all (λ row. is_met row.times (is_seen e (element_name row.element))) (inside e.element)

-- what a Start is that isn't among the elements that are read there: passed over, or this fault
abbrev pub passed_over : Option FormKind → Result (Option Row) FormKind
passed_over None = Ok None
passed_over (Some kind) = Err kind

-- what begins in an element by a Start of this name, by its row: an element that is read, or None where it is passed
-- over
abbrev pub begins_by : Option Row → Open → List ℕ → Result (Option Row) FormKind
begins_by None around name = passed_over (unlisted around.element)
begins_by (Some row) around name = do
  new ← check (may_come row.times (is_seen around name)) (repeated around.element)
  Ok (Some row)

-- what begins in an element, by the name alone
abbrev pub begins : Open → List ℕ → Result (Option Row) FormKind
begins around name = begins_by (row_of around.element name) around name

-- the names that were seen, with one more where it matters
abbrev pub with_seen : Times → List ℕ → List (List ℕ) → List (List ℕ)
with_seen Once name seen = seen ++ name ∷ []
with_seen AtMostOnce name seen = seen ++ name ∷ []
with_seen Any name seen = seen

-- a Start in an element that is read
abbrev pub started : {Read : Type 0} → Meaning Read → Option Row → Piece → Position Read
    → Result (Position Read) FormKind
started meaning None piece at = Ok (record at { passing = Some piece.name })
started meaning (Some row) piece at = do
  read ← meaning.started row.element piece.attributes at.read
  Ok (record {
    inner = record { element = row.element; line = piece.line; seen = []; text = [] };
    outer = record at.inner { seen = with_seen row.times piece.name at.inner.seen } ∷ at.outer;
    passing = None;
    read = read;
  })

-- A fault and its line.
abbrev pub Fault : Type 0
Fault = FormKind × ℕ

-- a fault on this line
abbrev pub on_line : {A : Type 0} → ℕ → Result A FormKind → Result A Fault
on_line line (Ok x) = Ok x
on_line line (Err kind) = Err (kind, line)

-- the line of what is wrong with an element at its End: a value's is that of its Start
abbrev pub end_line : Open → ℕ → ℕ
end_line e line = if has_value e.element then e.line else line

-- the End of an element: it is the element's own, and all that has to stand in it was read
abbrev pub closed : {Read : Type 0} → Meaning Read → Open → Piece → Read → Result Read Fault
closed meaning inner piece read = do
  own ← on_line piece.line (check (bytes_eq (element_name inner.element) piece.name) BadNesting)
  complete ← on_line piece.line (check (is_complete inner) MissingElement)
  on_line (end_line inner piece.line) (meaning.ended inner.element (trimmed inner.text) read)

-- an End in an element that is read, with the elements around it
abbrev pub ended : {Read : Type 0} → Meaning Read → List Open → Piece → Position Read → Result (Position Read) Fault
ended meaning [] piece at = Err (BadNesting, piece.line)
ended meaning (around ∷ outer) piece at = do
  read ← closed meaning at.inner piece at.read
  Ok (record { inner = around; outer = outer; passing = None; read = read })

-- a Start where nothing is passed over
abbrev pub begun : {Read : Type 0} → Meaning Read → Piece → Position Read → Result (Position Read) FormKind
begun meaning piece at = begins at.inner piece.name >>= λ row. started meaning row piece at

-- a Start, by what is passed over: it is nothing to an element that is passed over
abbrev pub start_in : {Read : Type 0} → Option (List ℕ) → Meaning Read → Piece → Position Read
    → Result (Position Read) FormKind
start_in (Some name) meaning piece at = Ok at
start_in None meaning piece at = begun meaning piece at

-- a Start
abbrev pub at_start : {Read : Type 0} → Meaning Read → Piece → Position Read → Result (Position Read) FormKind
at_start meaning piece at = start_in at.passing meaning piece at

-- an End, by what is passed over: the first of its own name ends an element that is passed over
abbrev pub end_in : {Read : Type 0} → Option (List ℕ) → Meaning Read → Piece → Position Read
    → Result (Position Read) Fault
end_in (Some name) meaning piece at = Ok (if bytes_eq name piece.name then record at { passing = None } else at)
end_in None meaning piece at = ended meaning at.outer piece at

-- an End
abbrev pub at_end : {Read : Type 0} → Meaning Read → Piece → Position Read → Result (Position Read) Fault
at_end meaning piece at = end_in at.passing meaning piece at

-- a text, by what is passed over: it means nothing, but in a value it is joined to the others
abbrev pub text_in : {Read : Type 0} → Option (List ℕ) → Piece → Position Read → Position Read
text_in (Some name) piece at = at
text_in None piece at =
    if has_value at.inner.element
    then record at { inner = record at.inner { text = at.inner.text ++ piece.text } }
    else at

-- a text
abbrev pub at_text : {Read : Type 0} → Piece → Position Read → Position Read
at_text piece at = text_in at.passing piece at

-- a piece; an Empty piece is a Start piece followed by its End piece
abbrev pub at_piece : {Read : Type 0} → Meaning Read → TagKind → Piece → Position Read → Result (Position Read) Fault
at_piece meaning Start piece at = on_line piece.line (at_start meaning piece at)
at_piece meaning End piece at = at_end meaning piece at
at_piece meaning Empty piece at = do
  within ← on_line piece.line (at_start meaning piece at)
  at_end meaning piece within
at_piece meaning Text piece at = Ok (at_text piece at)

-- the file's end on this line, with the elements around: it has to be after the root's End
abbrev pub at_file_end : {Read : Type 0} → List Open → ℕ → Position Read → Result Read Fault
at_file_end [] line at = on_line line (check (is_complete at.inner) Truncated >>= λ complete. Ok at.read)
at_file_end (around ∷ outer) line at = Err (Truncated, line)

-- all pieces that are left, up to the last
unfoldable pub walk : {Read : Type 0} → Meaning Read → List Piece → Last → Position Read → Result Read Fault
walk meaning [] (Ends line) at = at_file_end at.outer line at
walk meaning [] (Faulty kind line) at = Err (kind, line)
walk meaning (piece ∷ items) last at = at_piece meaning piece.kind piece at >>= walk meaning items last

-- a whole file of this kind, of which nothing was read so far
abbrev pub reading : {Read : Type 0} → Meaning Read → Element → Read → Pieces → Result Read Fault
reading meaning file nothing found =
    let root : Open = record { element = file; line = 0; seen = []; text = [] } in
    walk meaning found.items found.last (record { inner = root; outer = []; passing = None; read = nothing })
