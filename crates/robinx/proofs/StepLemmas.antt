-- The pieces of a text that is known from its front on, and the walk over them.
use Rattle.std.proofs.Common.{◌≡◌, ℕ, ◌+◌, ◌<◌, ◌≤◌, true, false, not, ◌==◌, List, [], ◌∷◌, ◌++◌, length, length-append, drop, Option, Some, None, Ok, refl, ap, ◌∙◌, append_assoc, arith}
use Rattle.std.specs.Prelude.{Result}
use Rattle.std.specs.List.{list_all, flat_map}
use Rattle.std.proofs.lemmas.Bool.{false≢true}
use Rattle.std.proofs.lemmas.List.{take_at, drop_at}
use Rattle.robinx.specs.Bytes.{is_name_byte}
use Rattle.robinx.specs.Fronts.{◌>>=◌, until}
use Rattle.robinx.specs.Tags.{end_at}
use Rattle.robinx.specs.Pieces.{Piece, Pieces, Found, with_piece, onto, piece_at, pieces_from}
use Rattle.robinx.specs.declared.tag.TagKind.{TagKind}
use Rattle.robinx.specs.declared.tag.TagKind.TheVariants.{Start, End, Empty, Text}
use Rattle.robinx.proofs.PieceLemmas.{line_ends, pieces_from-found}
use Rattle.robinx.specs.Tags.{Attribute}
use Rattle.robinx.specs.Attributes.{attribute_text, tag_line}
use Rattle.robinx.specs.Elements.{has_value}
use Rattle.robinx.specs.Walk.{Meaning, Position, Fault, walk, at_piece, text_in}
use Rattle.robinx.proofs.TagLemmas.{is_plain_name, are_new, are_plain_values, plain_start, name_at-plain, start_tag-plain, until-stop}

-- a tag as a piece
abbrev pub tag : TagKind → List ℕ → List Attribute → ℕ → Piece
tag kind name attributes line = record { kind = kind; name = name; attributes = attributes; text = []; line = line }

-- a text as a piece
abbrev pub value_piece : List ℕ → ℕ → Piece
value_piece text line = record { kind = Text; name = []; attributes = []; text = text; line = line }

-- ---- what stands at a position

-- a Start or an Empty piece
pub piece_at-tag : (line : ℕ) (name : List ℕ) (attributes : List Attribute) (c : ℕ) (end tail : List ℕ) (kind : TagKind) → is_plain_name name ≡ true → length attributes ≤ 64
    → are_new [] attributes ≡ true → are_plain_values attributes ≡ true → is_name_byte c ≡ false → end_at (c ∷ end) ≡ Ok (Some kind, tail)
    → piece_at line (60 ∷ (name ++ (flat_map attribute_text attributes ++ c ∷ end))) ≡ Ok (Some (record { kind = kind; name = name; attributes = attributes; text = []; line = line }), tail)
piece_at-tag line [] attributes c end tail kind plain few new values stops ends = absurd (false≢true plain)
piece_at-tag line (b ∷ name) attributes c end tail kind plain few new values stops ends =
    let first = plain_start b name plain in
    let slash : (47 == b) ≡ false = first.end in
    let bang : (33 == b) ≡ false = first.bang in
    let question : (63 == b) ≡ false = first.question in
    let tag = start_tag-plain (b ∷ name) attributes c end tail kind plain few new values stops ends in
    rw (slash, bang, question, tag) refl

-- an End piece
pub piece_at-end : (line : ℕ) (name tail : List ℕ) → is_plain_name name ≡ true → piece_at line (60 ∷ 47 ∷ (name ++ 62 ∷ tail)) ≡ Ok (Some (record { kind = End; name = name; attributes = []; text = []; line = line }), tail)
piece_at-end line name tail plain =
    let named = name_at-plain name 62 tail plain refl in
    rw named refl

-- a value before an end tag
pub piece_at-text : (line : ℕ) (b : ℕ) (text tail : List ℕ) → (60 == b) ≡ false → list_all (λ c. not (c == 60)) (b ∷ text) ≡ true
    → piece_at line ((b ∷ text) ++ 60 ∷ tail) ≡ Ok (Some (record { kind = Text; name = []; attributes = []; text = b ∷ text; line = line }), 60 ∷ tail)
piece_at-text line b text tail other plain =
    let whole : until (λ c. c == 60) ((b ∷ text) ++ 60 ∷ tail) ≡ (b ∷ text, 60 ∷ tail) = until-stop (λ c. c == 60) (b ∷ text) 60 tail plain refl in
    let found : List ℕ × List ℕ → Found = λ t. Ok (Some (record { kind = Text; name = []; attributes = []; text = t.0; line = line }), t.1) in
    rw other (ap found whole)

-- ---- the pieces from a position on

pub pieces-front : (line : ℕ) (front rest : List ℕ) (found : Option Piece) → 0 < length front → piece_at line (front ++ rest) ≡ Ok (found, rest)
    → pieces_from line 0 (front ++ rest) ≡ with_piece found (pieces_from (line + line_ends front) 0 rest)
pieces-front line front rest found some is =
    let whole = length-append front rest in
    pieces_from-found line (front ++ rest) rest found (length front) (omega arith) (omega arith) is
    ∙ ap (λ (l : List ℕ). with_piece found (pieces_from (line + line_ends l) 0 (drop (length front) (front ++ rest)))) (take_at front rest (length front) refl)
    ∙ ap (λ (l : List ℕ). with_piece found (pieces_from (line + line_ends front) 0 l)) (drop_at front rest (length front) refl)

-- the bytes begin with a tag
abbrev pub BeginsTag : List ℕ → Type 0
BeginsTag bytes = (tail : List ℕ) × (bytes ≡ 60 ∷ tail)

module _ {Read : Type 0} (meaning : Meaning Read) where
  -- the walk over the pieces of these bytes
  abbrev pub walk_on : ℕ → List ℕ → Position Read → Result Read Fault
  walk_on line bytes at = walk meaning (pieces_from line 0 bytes).items (pieces_from line 0 bytes).last at

  -- from this position on the bytes say this, on whatever line they begin
  abbrev pub Reads : List ℕ → Position Read → Read → Type 0
  Reads bytes at x = (line : ℕ) → walk_on line bytes at ≡ Ok x

  opened : (left now : Pieces) (piece : Piece) (at : Position Read) → left ≡ onto piece now
      → walk meaning left.items left.last at ≡ (at_piece meaning piece.kind piece at >>= walk meaning now.items now.last)
  unfolding walk
  opened left now piece at is = ap (λ (l : Pieces). walk meaning l.items l.last at) is

  -- a piece
  pub Reads-piece : (front rest : List ℕ) (at : Position Read) (x : Read) (piece : ℕ → Piece) (next : ℕ → Position Read) → 0 < length front
      → ((line : ℕ) → piece_at line (front ++ rest) ≡ Ok (Some (piece line), rest)) → ((line : ℕ) → at_piece meaning (piece line).kind (piece line) at ≡ Ok (next line))
      → ((line : ℕ) → Reads rest (next line) x) → Reads (front ++ rest) at x
  Reads-piece front rest at x piece next some is step on line =
      opened (pieces_from line 0 (front ++ rest)) (pieces_from (line + line_ends front) 0 rest) (piece line) at (pieces-front line front rest (Some (piece line)) some (is line))
      ∙ ap (λ (r : Result (Position Read) Fault). r >>= walk_on (line + line_ends front) rest) (step line)
      ∙ on line (line + line_ends front)

  -- what is passed over
  pub Reads-passed : (front rest : List ℕ) (at : Position Read) (x : Read) → 0 < length front
      → ((line : ℕ) → piece_at line (front ++ rest) ≡ Ok (None, rest)) → Reads rest at x → Reads (front ++ rest) at x
  Reads-passed front rest at x some is on line =
      ap (λ (l : Pieces). walk meaning l.items l.last at) (pieces-front line front rest None some (is line)) ∙ on (line + line_ends front)

  text_passed : (passing : Option (List ℕ)) (piece : Piece) (at : Position Read) → has_value at.inner.element ≡ false → text_in passing piece at ≡ at
  text_passed None piece at plain = rw plain refl
  text_passed (Some name) piece at plain = refl

  -- the end of a line, where no value is read
  newline : (tail : List ℕ) (at : Position Read) (x : Read) → has_value at.inner.element ≡ false → Reads (60 ∷ tail) at x → Reads (10 ∷ 60 ∷ tail) at x
  newline tail at x plain on =
      let piece : ℕ → Piece = λ line. record { kind = Text; name = []; attributes = []; text = 10 ∷ []; line = line } in
      Reads-piece (10 ∷ []) (60 ∷ tail) at x piece (λ line. at) (omega arith) (λ line. refl) (λ line. ap Ok (text_passed at.passing (piece line) at plain)) (λ line. on)

  pub Reads-newline : (rest : List ℕ) (at : Position Read) (x : Read) → BeginsTag rest → has_value at.inner.element ≡ false → Reads rest at x → Reads (10 ∷ rest) at x
  Reads-newline rest at x (tail, is) plain on = rw is (newline tail at x plain (rw is at on))

  -- ---- lines

  -- a tag and the end of its line
  tag_end : (front tail : List ℕ) (at : Position Read) (x : Read) (piece : ℕ → Piece) (next : ℕ → Position Read) → 0 < length front → BeginsTag tail
      → ((line : ℕ) → piece_at line (front ++ 10 ∷ tail) ≡ Ok (Some (piece line), 10 ∷ tail)) → ((line : ℕ) → at_piece meaning (piece line).kind (piece line) at ≡ Ok (next line))
      → ((line : ℕ) → has_value (next line).inner.element ≡ false) → ((line : ℕ) → Reads tail (next line) x) → Reads (front ++ 10 ∷ tail) at x
  tag_end front tail at x piece next some begins is step plain on =
      Reads-piece front (10 ∷ tail) at x piece next some is step (λ line. Reads-newline tail (next line) x begins (plain line) (on line))

  -- an Empty tag on a line
  pub Reads-tag_line : (name : List ℕ) (attributes : List Attribute) (tail : List ℕ) (at : Position Read) (x : Read) (next : ℕ → Position Read) → is_plain_name name ≡ true → length attributes ≤ 64
      → are_new [] attributes ≡ true → are_plain_values attributes ≡ true → BeginsTag tail
      → ((line : ℕ) → at_piece meaning Empty (tag Empty name attributes line) at ≡ Ok (next line)) → ((line : ℕ) → has_value (next line).inner.element ≡ false)
      → ((line : ℕ) → Reads tail (next line) x) → Reads (tag_line name attributes ++ tail) at x
  Reads-tag_line name attributes tail at x next named few new values begins step plain on =
      let front : List ℕ = 60 ∷ (name ++ (flat_map attribute_text attributes ++ (47 ∷ 62 ∷ []))) in
      let parts : tag_line name attributes ++ tail ≡ front ++ 10 ∷ tail = simp append_assoc in
      let flat : front ++ 10 ∷ tail ≡ 60 ∷ (name ++ (flat_map attribute_text attributes ++ (47 ∷ 62 ∷ 10 ∷ tail))) = simp append_assoc in
      rw parts (tag_end front tail at x (tag Empty name attributes) next (omega arith) begins
      (λ line. ap (piece_at line) flat ∙ piece_at-tag line name attributes 47 (62 ∷ 10 ∷ tail) (10 ∷ tail) Empty named few new values refl refl) step plain on)

  -- a Start tag on a line
  pub Reads-start_line : (name : List ℕ) (attributes : List Attribute) (tail : List ℕ) (at : Position Read) (x : Read) (next : ℕ → Position Read) → is_plain_name name ≡ true → length attributes ≤ 64
      → are_new [] attributes ≡ true → are_plain_values attributes ≡ true → BeginsTag tail
      → ((line : ℕ) → at_piece meaning Start (tag Start name attributes line) at ≡ Ok (next line)) → ((line : ℕ) → has_value (next line).inner.element ≡ false)
      → ((line : ℕ) → Reads tail (next line) x) → Reads (60 ∷ (name ++ (flat_map attribute_text attributes ++ (62 ∷ 10 ∷ tail)))) at x
  Reads-start_line name attributes tail at x next named few new values begins step plain on =
      let front : List ℕ = 60 ∷ (name ++ (flat_map attribute_text attributes ++ (62 ∷ []))) in
      let flat : front ++ 10 ∷ tail ≡ 60 ∷ (name ++ (flat_map attribute_text attributes ++ (62 ∷ 10 ∷ tail))) = simp append_assoc in
      rw (← flat) (tag_end front tail at x (tag Start name attributes) next (omega arith) begins
      (λ line. ap (piece_at line) flat ∙ piece_at-tag line name attributes 62 (10 ∷ tail) (10 ∷ tail) Start named few new values refl refl) step plain on)

  -- an End tag on a line
  pub Reads-end_line : (name : List ℕ) (tail : List ℕ) (at : Position Read) (x : Read) (next : ℕ → Position Read) → is_plain_name name ≡ true → BeginsTag tail
      → ((line : ℕ) → at_piece meaning End (tag End name [] line) at ≡ Ok (next line)) → ((line : ℕ) → has_value (next line).inner.element ≡ false)
      → ((line : ℕ) → Reads tail (next line) x) → Reads (60 ∷ 47 ∷ (name ++ (62 ∷ 10 ∷ tail))) at x
  Reads-end_line name tail at x next named begins step plain on =
      let front : List ℕ = 60 ∷ 47 ∷ (name ++ (62 ∷ [])) in
      let flat : front ++ 10 ∷ tail ≡ 60 ∷ 47 ∷ (name ++ (62 ∷ 10 ∷ tail)) = simp append_assoc in
      rw (← flat) (tag_end front tail at x (tag End name []) next (omega arith) begins
      (λ line. ap (piece_at line) flat ∙ piece_at-end line name (10 ∷ tail) named) step plain on)

  -- a Start tag, a value and an End tag on a line
  pub Reads-value_line : (name : List ℕ) (b : ℕ) (text tail : List ℕ) (at next : Position Read) (x : Read) (began held : ℕ → Position Read) → is_plain_name name ≡ true → (60 == b) ≡ false
      → list_all (λ c. not (c == 60)) (b ∷ text) ≡ true → BeginsTag tail → has_value next.inner.element ≡ false
      → ((line : ℕ) → at_piece meaning Start (tag Start name [] line) at ≡ Ok (began line)) → ((line other : ℕ) → at_piece meaning Text (value_piece (b ∷ text) other) (began line) ≡ Ok (held line))
      → ((line other : ℕ) → at_piece meaning End (tag End name [] other) (held line) ≡ Ok next) → Reads tail next x
      → Reads (60 ∷ (name ++ (62 ∷ ((b ∷ text) ++ (60 ∷ 47 ∷ (name ++ (62 ∷ 10 ∷ tail))))))) at x
  Reads-value_line name b text tail at next x began held named other plain begins none starts stands ends on =
      let end : List ℕ = 47 ∷ (name ++ (62 ∷ 10 ∷ tail)) in
      let rest : List ℕ = (b ∷ text) ++ 60 ∷ end in
      let front : List ℕ = 60 ∷ (name ++ (62 ∷ [])) in
      let flat : front ++ rest ≡ 60 ∷ (name ++ (62 ∷ rest)) = simp append_assoc in
      rw (← flat) (Reads-piece front rest at x (tag Start name []) began (omega arith)
      (λ line. ap (piece_at line) flat ∙ piece_at-tag line name [] 62 rest rest Start named (omega arith) refl refl refl refl) starts
      (λ line. Reads-piece (b ∷ text) (60 ∷ end) (began line) x (value_piece (b ∷ text)) (λ at. held line) (omega arith)
      (λ at. piece_at-text at b text end other plain) (stands line)
      (λ at. Reads-end_line name tail (held line) x (λ at. next) named begins (ends line) (λ at. none) (λ at. on))))
