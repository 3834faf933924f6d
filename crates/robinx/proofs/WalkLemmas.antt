-- The walk, piece by piece, as a loop takes it.
use Rattle.std.proofs.Common.{◌≡◌, ℕ, ◌<◌, true, false, List, [], ◌∷◌, length, Option, Some, None, Ok, Err, refl, sym, ap, ◌∙◌, subst, arith}
use Rattle.std.specs.Prelude.{Result}
use Rattle.robinx.specs.Fronts.{◌>>=◌}
use Rattle.robinx.specs.Pieces.{Piece, Pieces, Ends, none_but, onto}
use Rattle.robinx.specs.Next.{GivesNext}
use Rattle.robinx.specs.SeenTag.{view_of}
use Rattle.robinx.specs.declared.tag_fault.FormKind.TheVariants.{Truncated}
use Rattle.robinx.specs.declared.tag.Tag.{Tag}
use Rattle.robinx.specs.declared.tag_fault.TagFault.{TagFault}
use Rattle.robinx.specs.declared.tag_fault.TagFault.TheVariants as tags
use Rattle.robinx.specs.Walk.{Meaning, Open, Position, Fault, walk, at_piece, at_file_end, is_complete}
use Rattle.robinx.specs.Answers.{Walks}
use Rattle.robinx.specs.Tagged.{of_tags}
use Rattle.robinx.specs.declared.fault.ReadFault.{ReadFault}
use Rattle.robinx.specs.declared.fault.ReadFault.TheVariants as faults

pub next_piece : (left now : Pieces) (found : Option Tag) (tag : Tag) → GivesNext left (Ok found) now → found ≡ Some tag → left ≡ onto (view_of tag) now
next_piece left now found tag h is = subst (λ (f : Option Tag). GivesNext left (Ok f) now) is h

-- where no piece comes next, none is left
pub nothing_left : (left now : Pieces) (found : Option Tag) → GivesNext left (Ok found) now → found ≡ None → (now ≡ left) × ((line : ℕ) × (left ≡ none_but (Ends line)))
nothing_left left now found h none = subst (λ (f : Option Tag). GivesNext left (Ok f) now) none h

module _ {Read : Type 0} (meaning : Meaning Read) where
  opened : (left now : Pieces) (piece : Piece) (at : Position Read) → left ≡ onto piece now
      → walk meaning left.items left.last at ≡ (at_piece meaning piece.kind piece at >>= walk meaning now.items now.last)
  unfolding walk
  opened left now piece at is = ap (λ (l : Pieces). walk meaning l.items l.last at) is

  pub walk-piece : (left now : Pieces) (piece : Piece) (at next : Position Read) → left ≡ onto piece now → at_piece meaning piece.kind piece at ≡ Ok next
      → walk meaning now.items now.last next ≡ walk meaning left.items left.last at
  walk-piece left now piece at next is step =
      sym (opened left now piece at is ∙ ap (λ (r : Result (Position Read) Fault). r >>= walk meaning now.items now.last) step)

  -- a piece that stops the walk
  pub walk-stop : (left now : Pieces) (piece : Piece) (at next : Position Read) (read : Read) (fault : ReadFault) → left ≡ onto piece now
      → Walks (at_piece meaning piece.kind piece at) (Err fault) next → Walks (walk meaning left.items left.last at) (Err fault) read
  walk-stop left now piece at next read (faults.Form fault) is step =
      opened left now piece at is ∙ ap (λ (r : Result (Position Read) Fault). r >>= walk meaning now.items now.last) step
  walk-stop left now piece at next read faults.Mem is step = tt

  -- a fault of the pieces
  pub walk-fault : (left now : Pieces) (at : Position Read) (read : Read) (fault : TagFault) → GivesNext left (Err fault) now
      → Walks (walk meaning left.items left.last at) (Err (of_tags fault)) read
  unfolding walk
  walk-fault left now at read (tags.Form kind line) h = ap (λ (l : Pieces). walk meaning l.items l.last at) h.1
  walk-fault left now at read tags.Mem h = tt

  -- the file's end
  pub walk-end : (left : Pieces) (at : Position Read) (line : ℕ) → left ≡ none_but (Ends line) → walk meaning left.items left.last at ≡ at_file_end at.outer line at
  unfolding walk
  walk-end left at line is = ap (λ (l : Pieces). walk meaning l.items l.last at) is

  -- the file's end on this line where it is refused
  pub walk-cut : (said : Result Read Fault) (left : Pieces) (at : Position Read) (line at_line : ℕ) → walk meaning left.items left.last at ≡ said → left ≡ none_but (Ends line) → at_line ≡ line
      → at_file_end at.outer line at ≡ Err (Truncated, line) → said ≡ Err (Truncated, at_line)
  walk-cut said left at line at_line says ends same refused = sym says ∙ walk-end left at line ends ∙ refused ∙ ap (λ (l : ℕ). Err (Truncated, l)) (sym same)

-- the file's end, by the elements around the position
module _ {Read : Type 0} where
  pub file_end-whole : (outer : List Open) (line : ℕ) (at : Position Read) → length outer ≡ 0 → is_complete at.inner ≡ true → at_file_end outer line at ≡ Ok at.read
  file_end-whole [] line at none complete = rw complete refl
  file_end-whole (around ∷ outer) line at none complete = absurd (omega arith)

  pub file_end-open : (outer : List Open) (line : ℕ) (at : Position Read) → 0 < length outer → at_file_end outer line at ≡ Err (Truncated, line)
  file_end-open [] line at some = absurd (omega arith)
  file_end-open (around ∷ outer) line at some = refl

  pub file_end-incomplete : (outer : List Open) (line : ℕ) (at : Position Read) → is_complete at.inner ≡ false → at_file_end outer line at ≡ Err (Truncated, line)
  file_end-incomplete [] line at incomplete = rw incomplete refl
  file_end-incomplete (around ∷ outer) line at incomplete = refl
