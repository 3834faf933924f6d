-- The names that are read are as many as the league has teams and slots.
use Rattle.std.proofs.Common.{◌≡◌, ℕ, List, [], ◌∷◌, Option, Some, None, Ok, subst, ◌∙◌}
use Rattle.std.specs.Prelude.{codes, slice_set}
use Rattle.std.proofs.Math.ListN.{length-set}
use Rattle.std.proofs.lemmas.List.{length-replicate}
use Rattle.robinx.specs.Fronts.{◌>>=◌, check}
use Rattle.robinx.specs.Tags.{Attribute}
use Rattle.robinx.specs.Pieces.{Piece, Pieces}
use Rattle.robinx.specs.declared.tag_fault.FormKind.TheVariants.{BadNesting, Truncated}
use Rattle.robinx.specs.Walk as walk
use Rattle.robinx.specs.Walk.{Open, Position, with_seen}
use Rattle.robinx.specs.Values.{required, number}
use Rattle.robinx.specs.declared.element.Element.{Element}
use Rattle.robinx.specs.declared.element.Element.TheVariants.{InstanceFile, Team, Slot}
use Rattle.robinx.specs.declared.element.Row.{Row}
use Rattle.league.specs.Counts.{slot_count}
use Rattle.robinx.proofs.KeptLemmas.{ok_is, err_isnt, both_read, read_on_line, closed_is, walk_kept}
use Rattle.robinx.specs.Names.{Names, IsNames}
use Rattle.robinx.specs.NamesFile.{names_meaning, names_of, nameless, name_in, starts}

module _ (n : ℕ) where
  starts_counted : (element : Element) (tag : List Attribute) (read next : Names) → starts element tag read ≡ Ok next → IsNames n read → IsNames n next
  starts_counted Team tag read next h are =
      let id = both_read (required (codes "id") number tag) (λ id. Ok (record read { teams = slice_set read.teams id (name_in tag) })) next h in
      subst (IsNames n) (ok_is _ next id.1.1) (record { teams = length-set read.teams id.0 (name_in tag) ∙ are.teams; slots = are.slots })
  starts_counted Slot tag read next h are =
      let id = both_read (required (codes "id") number tag) (λ id. Ok (record read { slots = slice_set read.slots id (name_in tag) })) next h in
      subst (IsNames n) (ok_is _ next id.1.1) (record { teams = are.teams; slots = length-set read.slots id.0 (name_in tag) ∙ are.slots })
  starts_counted _ tag read next h are = subst (IsNames n) (ok_is read next h) are

  abbrev Counted : Position Names → Type 0
  Counted at = IsNames n at.read

  started_counted : (row : Option Row) (piece : Piece) (at next : Position Names) → walk.started names_meaning row piece at ≡ Ok next → Counted at → Counted next
  started_counted None piece at next h are = subst Counted (ok_is _ next h) are
  started_counted (Some row) piece at next h are =
      let within : Names → Position Names = λ read. record {
        inner = record { element = row.element; line = piece.line; seen = []; text = [] };
        outer = record at.inner { seen = with_seen row.times piece.name at.inner.seen } ∷ at.outer;
        passing = None;
        read = read;
      } in
      let read = both_read (starts row.element piece.attributes at.read) (λ read. Ok (within read)) next h in
      subst Counted (ok_is (within read.0) next read.1.1) (starts_counted row.element piece.attributes at.read read.0 read.1.0 are)

  begun_counted : (piece : Piece) (at next : Position Names) → Counted at → walk.begun names_meaning piece at ≡ Ok next → Counted next
  begun_counted piece at next are h =
      let row = both_read (walk.begins at.inner piece.name) (λ row. walk.started names_meaning row piece at) next h in
      started_counted row.0 piece at next row.1.1 are

  ended_counted : (outer : List Open) (piece : Piece) (at next : Position Names) → Counted at → walk.ended names_meaning outer piece at ≡ Ok next → Counted next
  ended_counted [] piece at next are h = absurd (err_isnt (BadNesting, piece.line) next h)
  ended_counted (around ∷ outer) piece at next are h =
      let behind : Names → Position Names = λ read. record { inner = around; outer = outer; passing = None; read = read } in
      let read = both_read (walk.closed names_meaning at.inner piece at.read) (λ read. Ok (behind read)) next h in
      let closed = closed_is names_meaning at.inner piece at.read read.0 read.1.0 in
      subst Counted (ok_is (behind read.0) next read.1.1) (subst (IsNames n) (ok_is at.read read.0 closed.1) are)

  end_counted : (outer : List Open) (line : ℕ) (at : Position Names) (read : Names) → walk.at_file_end outer line at ≡ Ok read → Counted at → IsNames n read
  end_counted [] line at read h are =
      let whole = both_read (check (walk.is_complete at.inner) Truncated) (λ complete. Ok at.read) read (read_on_line line (check (walk.is_complete at.inner) Truncated >>= λ complete. Ok at.read) read h) in
      subst (IsNames n) (ok_is at.read read whole.1.1) are
  end_counted (around ∷ outer) line at read h are = absurd (err_isnt (Truncated, line) read h)

  pub names_counted : (found : Pieces) (names : Names) → names_of n found ≡ Ok names → IsNames n names
  names_counted found names h =
      let start : Position Names = record { inner = record { element = InstanceFile; line = 0; seen = []; text = [] }; outer = []; passing = None; read = nameless n } in
      let none : Counted start = record { teams = length-replicate n []; slots = length-replicate (slot_count n) [] } in
      let end = walk_kept names_meaning Counted (λ at name same. same) (λ at text same. same) begun_counted (λ piece at next same step. ended_counted at.outer piece at next same step)
      found.items found.last start names none h in
      end_counted end.1.0.outer end.0 end.1.0 names end.1.1.1 end.1.1.0
