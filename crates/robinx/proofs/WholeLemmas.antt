-- Two meanings over the same walk: where the one reads a whole file, so does the other, if it takes each Start and each
-- End that the one takes.
use Rattle.std.proofs.Common.{◌≡◌, ℕ, Bool, true, false, List, [], ◌∷◌, ◌++◌, Option, Some, None, Ok, Err, refl, ap, ◌∙◌}
use Rattle.std.specs.Prelude.{Result, IfErr, if◌then◌else◌, bytes_eq, codes, slice_set}
use Rattle.robinx.specs.Fronts.{◌>>=◌, check, trimmed}
use Rattle.robinx.specs.Tags.{Attribute}
use Rattle.robinx.specs.Pieces.{Piece, Pieces, Last, Ends, Faulty}
use Rattle.robinx.specs.declared.tag.TagKind.{TagKind}
use Rattle.robinx.specs.declared.tag.TagKind.TheVariants.{Start, End, Empty, Text}
use Rattle.robinx.specs.declared.tag_fault.FormKind.{FormKind}
use Rattle.robinx.specs.declared.tag_fault.FormKind.TheVariants.{BadNesting, MissingElement, Truncated}
use Rattle.robinx.specs.Elements.{element_name, has_value}
use Rattle.robinx.specs.Walk as walk
use Rattle.robinx.specs.Walk.{Meaning, Open, Position, Fault, is_complete, on_line, end_line, closed, begins, with_seen, reading}
use Rattle.robinx.specs.Values.{required, number}
use Rattle.robinx.specs.InstanceFile as instance
use Rattle.robinx.specs.InstanceFile.{Draft, instance_meaning, instance_of, nothing, league_of}
use Rattle.robinx.specs.declared.element.Element.{Element}
use Rattle.robinx.specs.declared.element.Element.TheVariants.{InstanceFile, Team, Slot}
use Rattle.robinx.specs.declared.element.Row.{Row}
use Rattle.league.specs.Instance.{Instance}
use Rattle.robinx.specs.Answers.{Says}
use Rattle.robinx.specs.declared.fault.ReadFault.{ReadFault}
use Rattle.robinx.specs.declared.fault.ReadFault.TheVariants as faults
use Rattle.robinx.proofs.KeptLemmas.{as_read, ok_is, err_isnt, both_read, read_on_line}
use Rattle.robinx.specs.Names.{Names}
use Rattle.robinx.specs.NamesFile.{names_meaning, names_of, nameless, name_in, starts}

-- ---- steps that were read

-- what comes next is read where what comes before was
bind_ok : {A B F : Type 0} (read : Result A F) (others : A → Result B F) (x : A) (y : B) → read ≡ Ok x → others x ≡ Ok y → (read >>= others) ≡ Ok y
bind_ok {A} {B} {F} read others x y is next = ap (λ (r : Result A F). r >>= others) is ∙ next

on_line_ok : {A : Type 0} (line : ℕ) (read : Result A FormKind) (x : A) → read ≡ Ok x → on_line line read ≡ Ok x
on_line_ok {A} line read x is = ap (λ (r : Result A FormKind). on_line line r) is

-- a place of a walk, with something else that was read
abbrev beside : {A B : Type 0} → B → Position A → Position B
beside read at = record { inner = at.inner; outer = at.outer; passing = at.passing; read = read }

-- the place behind the Start of an element, and behind the End of one
abbrev within : {A : Type 0} → Row → Piece → Open → List Open → A → Position A
within row piece inner outer read = record {
  inner = record { element = row.element; line = piece.line; seen = []; text = [] };
  outer = record inner { seen = with_seen row.times piece.name inner.seen } ∷ outer;
  passing = None;
  read = read;
}

abbrev behind : {A : Type 0} → Open → List Open → A → Position A
behind around outer read = record { inner = around; outer = outer; passing = None; read = read }

module _ {A B : Type 0} (first : Meaning A) (second : Meaning B)
    (starts_so : (element : Element) (tag : List Attribute) (a now : A) (b : B) → first.started element tag a ≡ Ok now → (after : B) × (second.started element tag b ≡ Ok after))
    (ends_so : (element : Element) (value : List ℕ) (a now : A) (b : B) → first.ended element value a ≡ Ok now → (after : B) × (second.ended element value b ≡ Ok after)) where
  -- a step of the one walk as a step of the other
  abbrev Follows : (F : Type 0) → Position A → Result (Position B) F → Type 0
  Follows F next other = (after : B) × (other ≡ as_read F (beside after next))

  moved : (F : Type 0) (b : B) (at next : Position A) → as_read F at ≡ as_read F next → as_read F (beside b at) ≡ as_read F (beside b next)
  moved F b at next h = ap (λ (p : Position A). as_read F (beside b p)) (ok_is at next h)

  started_whole : (row : Option Row) (piece : Piece) (at next : Position A) (b : B) → walk.started first row piece at ≡ Ok next → Follows FormKind next (walk.started second row piece (beside b at))
  started_whole None piece at next b h = (b, moved FormKind b (record at { passing = Some piece.name }) next h)
  started_whole (Some row) piece at next b h =
      let read = both_read (first.started row.element piece.attributes at.read) (λ read. Ok (within row piece at.inner at.outer read)) next h in
      let other = starts_so row.element piece.attributes at.read read.0 b read.1.0 in (
        other.0,
        bind_ok (second.started row.element piece.attributes b) (λ read. Ok (within row piece at.inner at.outer read)) other.0 (beside other.0 next) other.1
            (moved FormKind other.0 (within row piece at.inner at.outer read.0) next read.1.1),
      )

  begun_whole : (piece : Piece) (at next : Position A) (b : B) → walk.begun first piece at ≡ Ok next → Follows FormKind next (walk.begun second piece (beside b at))
  begun_whole piece at next b h =
      let row = both_read (begins at.inner piece.name) (λ row. walk.started first row piece at) next h in
      let other = started_whole row.0 piece at next b row.1.1 in
      (other.0, bind_ok (begins at.inner piece.name) (λ row. walk.started second row piece (beside b at)) row.0 (beside other.0 next) row.1.0 other.1)

  start_whole : (passing : Option (List ℕ)) (piece : Piece) (at next : Position A) (b : B) → walk.start_in passing first piece at ≡ Ok next → Follows FormKind next (walk.start_in passing second piece (beside b at))
  start_whole (Some name) piece at next b h = (b, moved FormKind b at next h)
  start_whole None piece at next b h = begun_whole piece at next b h

  closed_whole : (inner : Open) (piece : Piece) (a now : A) (b : B) → closed first inner piece a ≡ Ok now → (after : B) × (closed second inner piece b ≡ Ok after)
  closed_whole inner piece a now b h =
      let own = on_line piece.line (check (bytes_eq (element_name inner.element) piece.name) BadNesting) in
      let complete = on_line piece.line (check (is_complete inner) MissingElement) in
      let value = first.ended inner.element (trimmed inner.text) a in
      let other_value = second.ended inner.element (trimmed inner.text) b in
      let line = end_line inner piece.line in
      let is_own = both_read own (λ own. complete >>= λ complete. on_line line value) now h in
      let is_complete = both_read complete (λ complete. on_line line value) now is_own.1.1 in
      let other = ends_so inner.element (trimmed inner.text) a now b (read_on_line line value now is_complete.1.1) in (
        other.0,
        bind_ok own (λ own. complete >>= λ complete. on_line line other_value) is_own.0 other.0 is_own.1.0
            (bind_ok complete (λ complete. on_line line other_value) is_complete.0 other.0 is_complete.1.0 (on_line_ok line other_value other.0 other.1)),
      )

  ended_whole : (outer : List Open) (piece : Piece) (at next : Position A) (b : B) → walk.ended first outer piece at ≡ Ok next → Follows Fault next (walk.ended second outer piece (beside b at))
  ended_whole [] piece at next b h = absurd (err_isnt (BadNesting, piece.line) next h)
  ended_whole (around ∷ outer) piece at next b h =
      let read = both_read (closed first at.inner piece at.read) (λ read. Ok (behind around outer read)) next h in
      let other = closed_whole at.inner piece at.read read.0 b read.1.0 in (
        other.0,
        bind_ok (closed second at.inner piece b) (λ read. Ok (behind around outer read)) other.0 (beside other.0 next) other.1
            (moved Fault other.0 (behind around outer read.0) next read.1.1),
      )

  passed_by : (own : Bool) (at : Position A) (b : B) → (if own then record (beside b at) { passing = None } else beside b at) ≡ beside b (if own then record at { passing = None } else at)
  passed_by true at b = refl
  passed_by false at b = refl

  end_whole : (passing : Option (List ℕ)) (piece : Piece) (at next : Position A) (b : B) → walk.end_in passing first piece at ≡ Ok next → Follows Fault next (walk.end_in passing second piece (beside b at))
  end_whole (Some name) piece at next b h =
      let own = bytes_eq name piece.name in
      (b, ap (λ (p : Position B). as_read Fault p) (passed_by own at b) ∙ moved Fault b (if own then record at { passing = None } else at) next h)
  end_whole None piece at next b h = ended_whole at.outer piece at next b h

  joined_by : (value : Bool) (piece : Piece) (at : Position A) (b : B)
      → (if value then record (beside b at) { inner = record at.inner { text = at.inner.text ++ piece.text } } else beside b at)
      ≡ beside b (if value then record at { inner = record at.inner { text = at.inner.text ++ piece.text } } else at)
  joined_by true piece at b = refl
  joined_by false piece at b = refl

  text_same : (passing : Option (List ℕ)) (piece : Piece) (at : Position A) (b : B) → walk.text_in passing piece (beside b at) ≡ beside b (walk.text_in passing piece at)
  text_same (Some name) piece at b = refl
  text_same None piece at b = joined_by (has_value at.inner.element) piece at b

  piece_whole : (kind : TagKind) (piece : Piece) (at next : Position A) (b : B) → walk.at_piece first kind piece at ≡ Ok next → Follows Fault next (walk.at_piece second kind piece (beside b at))
  piece_whole Start piece at next b h =
      let other = start_whole at.passing piece at next b (read_on_line piece.line (walk.at_start first piece at) next h) in
      (other.0, on_line_ok piece.line (walk.at_start second piece (beside b at)) (beside other.0 next) other.1)
  piece_whole End piece at next b h = end_whole at.passing piece at next b h
  piece_whole Empty piece at next b h =
      let within = both_read (on_line piece.line (walk.at_start first piece at)) (λ within. walk.at_end first piece within) next h in
      let begun = start_whole at.passing piece at within.0 b (read_on_line piece.line (walk.at_start first piece at) within.0 within.1.0) in
      let other = end_whole within.0.passing piece within.0 next begun.0 within.1.1 in (
        other.0,
        bind_ok (on_line piece.line (walk.at_start second piece (beside b at))) (λ within. walk.at_end second piece within) (beside begun.0 within.0) (beside other.0 next)
            (on_line_ok piece.line (walk.at_start second piece (beside b at)) (beside begun.0 within.0) begun.1) other.1,
      )
  piece_whole Text piece at next b h =
      (b, ap (λ (p : Position B). as_read Fault p) (text_same at.passing piece at b) ∙ moved Fault b (walk.at_text piece at) next h)

  file_end_whole : (outer : List Open) (line : ℕ) (at : Position A) (read : A) (b : B) → walk.at_file_end outer line at ≡ Ok read → walk.at_file_end outer line (beside b at) ≡ Ok b
  file_end_whole [] line at read b h =
      let whole = check (is_complete at.inner) Truncated in
      let is = both_read whole (λ complete. Ok at.read) read (read_on_line line (whole >>= λ complete. Ok at.read) read h) in
      on_line_ok line (whole >>= λ complete. Ok b) b (bind_ok whole (λ complete. Ok b) is.0 b is.1.0 refl)
  file_end_whole (around ∷ outer) line at read b h = absurd (err_isnt (Truncated, line) read h)

  walk_whole : (items : List Piece) (last : Last) (at : Position A) (read : A) (b : B) → walk.walk first items last at ≡ Ok read → (found : B) × (walk.walk second items last (beside b at) ≡ Ok found)
  unfolding walk.walk
  walk_whole [] (Ends line) at read b h = (b, file_end_whole at.outer line at read b h)
  walk_whole [] (Faulty kind line) at read b h = absurd (err_isnt (kind, line) read h)
  walk_whole (piece ∷ items) last at read b h =
      let step = both_read (walk.at_piece first piece.kind piece at) (walk.walk first items last) read h in
      let other = piece_whole piece.kind piece at step.0 b step.1.0 in
      let rest = walk_whole items last step.0 read other.0 step.1.1 in
      (rest.0, bind_ok (walk.at_piece second piece.kind piece (beside b at)) (walk.walk second items last) (beside other.0 step.0) rest.0 other.1 rest.1)

-- ---- names beside a league

starts_named : (element : Element) (tag : List Attribute) (draft now : Draft) (names : Names) → instance.starts element tag draft ≡ Ok now → (after : Names) × (starts element tag names ≡ Ok after)
starts_named Team tag draft now names h =
    let read = both_read (required (codes "id") number tag) (λ id. Ok (record draft { teams = draft.teams ++ id ∷ [] })) now h in
    let named : ℕ → Names = λ id. record names { teams = slice_set names.teams id (name_in tag) } in
    (named read.0, bind_ok (required (codes "id") number tag) (λ id. Ok (named id)) read.0 (named read.0) read.1.0 refl)
starts_named Slot tag draft now names h =
    let read = both_read (required (codes "id") number tag) (λ id. Ok (record draft { slots = draft.slots ++ id ∷ [] })) now h in
    let named : ℕ → Names = λ id. record names { slots = slice_set names.slots id (name_in tag) } in
    (named read.0, bind_ok (required (codes "id") number tag) (λ id. Ok (named id)) read.0 (named read.0) read.1.0 refl)
starts_named _ tag draft now names h = (names, refl)

-- a file that says a league has its names
pub names_whole : (n : ℕ) (found : Pieces) (league : Instance) → instance_of found ≡ Ok league → (names : Names) × (names_of n found ≡ Ok names)
names_whole n found league h =
    let draft = both_read (reading instance_meaning InstanceFile nothing found) (λ draft. Ok (league_of draft)) league h in
    let start : Position Draft = record { inner = record { element = InstanceFile; line = 0; seen = []; text = [] }; outer = []; passing = None; read = nothing } in
    walk_whole instance_meaning names_meaning starts_named (λ element value draft now names h. (names, refl)) found.items found.last start draft.0 (nameless n) draft.1.0

-- a file that says a league has no fault but want of memory
pub fault_is : {A : Type 0} (said : Result A Fault) (x : A) (result : Result A ReadFault) → said ≡ Ok x → Says said result → IfErr result (λ fault. fault ≡ faults.Mem)
fault_is said x (Ok y) is says = tt
fault_is said x (Err (faults.Form fault)) is says = absurd (err_isnt (fault.kind, fault.line) x (says_err is says)) where
  says_err : said ≡ Ok x → said ≡ Err (fault.kind, fault.line) → Err (fault.kind, fault.line) ≡ as_read Fault x
  says_err one other = cc
fault_is said x (Err faults.Mem) is says = refl
