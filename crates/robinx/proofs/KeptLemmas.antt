-- What stays so along a walk, from its first piece to the file's end.
use Rattle.std.proofs.Common.{◌≡◌, ℕ, Bool, true, false, List, [], ◌∷◌, ◌++◌, Option, Some, None, Ok, Err, refl, ap, subst}
use Rattle.std.specs.Prelude.{Result, if◌then◌else◌, bytes_eq}
use Rattle.robinx.specs.Fronts.{◌>>=◌, check, trimmed}
use Rattle.robinx.specs.Pieces.{Piece, Last, Ends, Faulty}
use Rattle.robinx.specs.declared.tag.TagKind.{TagKind}
use Rattle.robinx.specs.declared.tag.TagKind.TheVariants.{Start, End, Empty, Text}
use Rattle.robinx.specs.declared.tag_fault.FormKind.{FormKind}
use Rattle.robinx.specs.declared.tag_fault.FormKind.TheVariants.{BadNesting, MissingElement}
use Rattle.robinx.specs.Elements.{element_name, has_value}
use Rattle.robinx.specs.Walk.{Meaning, Open, Position, is_complete, on_line, end_line, closed, begun, start_in, ended, end_in, text_in, at_start, at_end, at_piece, at_file_end, walk}

-- a value that was read, where faults are such
abbrev pub as_read : {A : Type 0} → (F : Type 0) → A → Result A F
as_read F x = Ok x

-- what was read is the result of its last step, and so of each step before
pub ok_is : {A F : Type 0} (x y : A) → as_read F x ≡ as_read F y → x ≡ y
ok_is x y h = cc

pub err_isnt : {A F : Type 0} (fault : F) (x : A) → Err fault ≡ as_read F x → ⊥
err_isnt fault x h = absurd cc

pub both_read : {A B F : Type 0} (read : Result A F) (others : A → Result B F) (y : B) → (read >>= others) ≡ Ok y → (x : A) × ((read ≡ Ok x) × (others x ≡ Ok y))
both_read (Ok x) others y h = (x, (refl, h))
both_read (Err fault) others y h = absurd (err_isnt fault y h)

pub read_on_line : {A : Type 0} (line : ℕ) (read : Result A FormKind) (x : A) → on_line line read ≡ Ok x → read ≡ Ok x
read_on_line line (Ok y) x h =
    let same : y ≡ x = cc in
    ap (as_read FormKind) same
read_on_line line (Err kind) x h = absurd (err_isnt (kind, line) x h)

pub checked : (test : Bool) (kind : FormKind) (x : Unit {0}) → check test kind ≡ Ok x → test ≡ true
checked true kind x h = refl
checked false kind x h = absurd (err_isnt kind x h)

-- an element that was closed is whole, and its value was read
pub closed_is : {Read : Type 0} (meaning : Meaning Read) (inner : Open) (piece : Piece) (before now : Read) → closed meaning inner piece before ≡ Ok now
    → (is_complete inner ≡ true) × (meaning.ended inner.element (trimmed inner.text) before ≡ Ok now)
closed_is meaning inner piece before now h =
    let value = meaning.ended inner.element (trimmed inner.text) before in
    let whole = on_line piece.line (check (is_complete inner) MissingElement) in
    let own = both_read (on_line piece.line (check (bytes_eq (element_name inner.element) piece.name) BadNesting)) (λ own. whole >>= λ complete. on_line (end_line inner piece.line) value) now h in
    let complete = both_read whole (λ complete. on_line (end_line inner piece.line) value) now own.1.1 in (
      checked (is_complete inner) MissingElement complete.0 (read_on_line piece.line (check (is_complete inner) MissingElement) complete.0 complete.1.0),
      read_on_line (end_line inner piece.line) value now complete.1.1,
    )

-- a fact of places that no step breaks: it doesn't speak of what is passed over or of texts
module _ {Read : Type 0} (meaning : Meaning Read) (Fits : Position Read → Type 0)
    (passes : (at : Position Read) (name : Option (List ℕ)) → Fits at → Fits (record at { passing = name }))
    (joins : (at : Position Read) (text : List ℕ) → Fits at → Fits (record at { inner = record at.inner { text = text } }))
    (starts_so : (piece : Piece) (at next : Position Read) → Fits at → begun meaning piece at ≡ Ok next → Fits next)
    (ends_so : (piece : Piece) (at next : Position Read) → Fits at → ended meaning at.outer piece at ≡ Ok next → Fits next) where
  start_kept : (passing : Option (List ℕ)) (piece : Piece) (at next : Position Read) → Fits at → start_in passing meaning piece at ≡ Ok next → Fits next
  start_kept (Some name) piece at next fits h = subst Fits (ok_is at next h) fits
  start_kept None piece at next fits h = starts_so piece at next fits h

  passed_by : (own : Bool) (at : Position Read) → Fits at → Fits (if own then record at { passing = None } else at)
  passed_by true at fits = passes at None fits
  passed_by false at fits = fits

  end_kept : (passing : Option (List ℕ)) (piece : Piece) (at next : Position Read) → Fits at → end_in passing meaning piece at ≡ Ok next → Fits next
  end_kept (Some name) piece at next fits h = subst Fits (ok_is _ next h) (passed_by (bytes_eq name piece.name) at fits)
  end_kept None piece at next fits h = ends_so piece at next fits h

  joined_by : (value : Bool) (piece : Piece) (at : Position Read) → Fits at → Fits (if value then record at { inner = record at.inner { text = at.inner.text ++ piece.text } } else at)
  joined_by true piece at fits = joins at (at.inner.text ++ piece.text) fits
  joined_by false piece at fits = fits

  text_kept : (passing : Option (List ℕ)) (piece : Piece) (at : Position Read) → Fits at → Fits (text_in passing piece at)
  text_kept (Some name) piece at fits = fits
  text_kept None piece at fits = joined_by (has_value at.inner.element) piece at fits

  piece_kept : (kind : TagKind) (piece : Piece) (at next : Position Read) → Fits at → at_piece meaning kind piece at ≡ Ok next → Fits next
  piece_kept Start piece at next fits h = start_kept at.passing piece at next fits (read_on_line piece.line (at_start meaning piece at) next h)
  piece_kept End piece at next fits h = end_kept at.passing piece at next fits h
  piece_kept Empty piece at next fits h =
      let within = both_read (on_line piece.line (at_start meaning piece at)) (λ within. at_end meaning piece within) next h in
      let kept = start_kept at.passing piece at within.0 fits (read_on_line piece.line (at_start meaning piece at) within.0 within.1.0) in
      end_kept within.0.passing piece within.0 next kept within.1.1
  piece_kept Text piece at next fits h = subst Fits (ok_is _ next h) (text_kept at.passing piece at fits)

  -- a fact that no step breaks holds at the file's end, where what was read is the whole
  pub walk_kept : (items : List Piece) (last : Last) (at : Position Read) (read : Read) → Fits at → walk meaning items last at ≡ Ok read
      → (line : ℕ) × ((end : Position Read) × (Fits end × (at_file_end end.outer line end ≡ Ok read)))
  unfolding walk
  walk_kept [] (Ends line) at read fits h = (line, (at, (fits, h)))
  walk_kept [] (Faulty kind line) at read fits h = absurd (err_isnt (kind, line) read h)
  walk_kept (piece ∷ items) last at read fits h =
      let step = both_read (at_piece meaning piece.kind piece at) (walk meaning items last) read h in
      walk_kept items last step.0 read (piece_kept piece.kind piece at step.0 fits step.1.0) step.1.1
