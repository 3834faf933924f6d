-- The pieces from a place on, piece by piece, and the line of their end.
use Rattle.std.proofs.Common.{◌≡◌, ℕ, zero, suc, ◌+◌, ◌-◌, ◌<◌, ◌==◌, Bool, true, false, List, [], ◌∷◌, length, take, drop, count_by, cond, Option, Some, None, Ok, Err, add-zero, refl, sym, ap, ◌∙◌, arith}
use Rattle.std.proofs.lemmas.List.Sums.{sum_by-cons}
use Rattle.robinx.specs.Bytes.{line_feed}
use Rattle.robinx.specs.Fronts.{Front, ◌>>=◌}
use Rattle.robinx.specs.Pieces.{Piece, Pieces, Found, Ends, none_but, fault_after, with_piece, go_on, line_after, after_text, piece_of, piece_at, attributes_in, attributes_here, opening_at, pieces_from}
use Rattle.robinx.specs.SeenPieces.{Stops}
use Rattle.robinx.specs.Faults.{fault_on}
use Rattle.robinx.specs.Next.{TakesMemory, GivesNext}
use Rattle.robinx.specs.Moves.{MovesOn, PassesOver}
use Rattle.robinx.specs.Tags.{Attribute, without_memory, end_tag, start_tag, tag_attributes}
use Rattle.std.specs.Prelude.{IfOk, codes}
use Rattle.robinx.specs.declared.tag_fault.FormKind.{FormKind}
use Rattle.robinx.specs.declared.tag_fault.FormKind.TheVariants.{Truncated}
use Rattle.std.specs.Borrow.{Bor}
use Rattle.robinx.specs.declared.tag.Tag.{Tag}
use Rattle.robinx.specs.declared.tag.TagKind.{TagKind}
use Rattle.robinx.specs.declared.tag.TagKind.TheVariants.{End}
use Rattle.robinx.specs.declared.opening.Opening.{Opening}
use Rattle.robinx.specs.declared.opening.Opening.TheVariants.{Comment, Declaration, Reserved, EndTag, StartTag, Content}
use Rattle.robinx.proofs.AttributeLemmas.{tag_attributes-all}
use Rattle.robinx.specs.declared.tag_fault.Stop.{Stop}
use Rattle.robinx.specs.declared.tag_fault.Stop.TheVariants as stops

-- how many lines end in these bytes
abbrev pub line_ends : List ℕ → ℕ
line_ends bytes = count_by (λ b. b == line_feed) bytes

line_by_test : (ends_line : Bool) (line others : ℕ) → cond ends_line (line + 1) line + others ≡ line + (cond ends_line 1 0 + others)
line_by_test true line others = omega arith
line_by_test false line others = omega arith

line_after-then : (line b : ℕ) (bytes : List ℕ) → line_after line b + line_ends bytes ≡ line + line_ends (b ∷ bytes)
line_after-then line b bytes = line_by_test (b == line_feed) line (line_ends bytes) ∙ ap (λ n. line + n) (sym (sum_by-cons (λ x. cond (x == line_feed) 1 0) b bytes))

-- the line is carried over the bytes that belong to what began before
pub pieces_from-inside : (line inside : ℕ) (bytes : List ℕ) → pieces_from line inside bytes ≡ pieces_from (line + line_ends (take inside bytes)) 0 (drop inside bytes)
unfolding pieces_from
pieces_from-inside line zero [] = ap (λ at. pieces_from at 0 []) (sym (add-zero line))
pieces_from-inside line zero (b ∷ bytes) = ap (λ at. pieces_from at 0 (b ∷ bytes)) (sym (add-zero line))
pieces_from-inside line (suc inside) [] = ap (λ at. pieces_from at 0 []) (sym (add-zero line))
pieces_from-inside line (suc inside) (b ∷ bytes) =
    pieces_from-inside (line_after line b) inside bytes
    ∙ ap (λ at. pieces_from at 0 (drop inside bytes)) (line_after-then line b (take inside bytes))

pub pieces_from-end : (line : ℕ) (bytes : List ℕ) → length bytes ≡ 0 → pieces_from line 0 bytes ≡ none_but (Ends line)
unfolding pieces_from
pieces_from-end line [] none = refl
pieces_from-end line (b ∷ bytes) none = absurd (omega arith)

pub pieces_from-fault : (line : ℕ) (bytes : List ℕ) (kind : FormKind) → 0 < length bytes → piece_at line bytes ≡ Err kind → pieces_from line 0 bytes ≡ fault_after (attributes_here bytes) kind line
unfolding pieces_from
pieces_from-fault line [] kind some is = absurd (omega arith)
pieces_from-fault line (b ∷ bytes) kind some is = rw is refl

pub pieces_from-found : (line : ℕ) (bytes rest : List ℕ) (found : Option Piece) (passed : ℕ) → 0 < length bytes → passed ≡ 1 + (length bytes - 1 - length rest) → piece_at line bytes ≡ Ok (found, rest)
    → pieces_from line 0 bytes ≡ with_piece found (pieces_from (line + line_ends (take passed bytes)) 0 (drop passed bytes))
unfolding pieces_from
pieces_from-found line [] rest found passed some is e = absurd (omega arith)
pieces_from-found line (b ∷ bytes) rest found passed some is e =
    let inside : passed ≡ suc (length bytes - length rest) = omega arith in
    let on = pieces_from-inside (line_after line b) (length bytes - length rest) bytes
    ∙ ap (λ at. pieces_from at 0 (drop (length bytes - length rest) bytes)) (line_after-then line b (take (length bytes - length rest) bytes)) in
    rw (e, inside) (ap (with_piece found) on)

Ends-line : (line at : ℕ) → Ends line ≡ Ends at → at ≡ line
Ends-line line at is = cc

-- what follows at an end follows from the end of what is left
go_on-last : (line at : ℕ) (bytes : List ℕ) (read : Found) (others : List ℕ → Pieces) (P : Type 0) → ((rest : List ℕ) → (others rest).last ≡ Ends at → P) → (go_on line bytes read others).last ≡ Ends at → P
go_on-last line at bytes (Err kind) others P further is = absurd cc
go_on-last line at bytes (Ok (None, rest)) others P further is = further rest is
go_on-last line at bytes (Ok (Some piece, rest)) others P further is = further rest is

-- where the file ends, its line is behind all the bytes
pub pieces_from-last : (line inside : ℕ) (bytes : List ℕ) (at : ℕ) → (pieces_from line inside bytes).last ≡ Ends at → at ≡ line + line_ends bytes
unfolding pieces_from
pieces_from-last line zero [] at is = Ends-line _ _ is ∙ sym (add-zero line)
pieces_from-last line (suc inside) [] at is = Ends-line _ _ is ∙ sym (add-zero line)
pieces_from-last line (suc inside) (b ∷ bytes) at is = pieces_from-last (line_after line b) inside bytes at is ∙ line_after-then line b bytes
pieces_from-last line zero (b ∷ bytes) at is =
    let further = λ (rest : List ℕ) (on : (pieces_from (line_after line b) (length bytes - length rest) bytes).last ≡ Ends at).
    pieces_from-last (line_after line b) (length bytes - length rest) bytes at on ∙ line_after-then line b bytes in
    go_on-last line at (b ∷ bytes) (piece_at line (b ∷ bytes)) (λ rest. pieces_from (line_after line b) (length bytes - length rest) bytes) (at ≡ line + line_ends (b ∷ bytes)) further is

-- ---- memory

-- how many attributes a piece has
abbrev attribute_count : Option Piece → ℕ
attribute_count None = 0
attribute_count (Some piece) = length piece.attributes

-- what is found has all these attributes
abbrev HasAll : ℕ → Found → Type 0
HasAll count read = IfOk read (λ found. count ≡ attribute_count found.0)

passed_by : (rest : Option (List ℕ)) → HasAll 0 (elim rest [ None ↦ Err Truncated | Some after ↦ Ok (None, after) ])
passed_by None = tt
passed_by (Some after) = refl

end_by : (line : ℕ) (name : Front (List ℕ)) → HasAll 0 (name >>= λ n. Ok (Some (record { kind = End; name = n.0; attributes = []; text = []; line = line }), n.1))
end_by line (Ok name) = refl
end_by line (Err kind) = tt

start_by : (line count : ℕ) (tag : Front (TagKind × List ℕ × List Attribute)) → IfOk tag (λ t. count ≡ length t.0.2)
    → HasAll count (tag >>= λ t. Ok (Some (record { kind = t.0.0; name = t.0.1; attributes = t.0.2; text = []; line = line }), t.1))
start_by line count (Ok tag) h = h
start_by line count (Err kind) h = tt

piece_of-all : (opening : Opening) (line : ℕ) (bytes : List ℕ) → HasAll (attributes_in opening bytes) (piece_of opening line bytes)
piece_of-all Comment line bytes = passed_by (after_text (codes "-->") bytes)
piece_of-all Declaration line bytes = passed_by (after_text (codes "?>") bytes)
piece_of-all Reserved line bytes = tt
piece_of-all EndTag line bytes = end_by line (end_tag bytes)
piece_of-all StartTag line bytes = start_by line (tag_attributes bytes) (start_tag bytes) (tag_attributes-all bytes)
piece_of-all Content line bytes = refl

takes_by : (line : ℕ) (bytes : List ℕ) (read : Found) (others : List ℕ → Pieces) → HasAll (attributes_here bytes) read → without_memory < attributes_here bytes → TakesMemory (go_on line bytes read others)
takes_by line bytes (Err kind) others all h = h
takes_by line bytes (Ok (None, rest)) others all h = absurd (omega (arith, all, h))
takes_by line bytes (Ok (Some piece, rest)) others all h = omega (arith, all, h)

pub pieces_from-memory : (line : ℕ) (bytes : List ℕ) → 0 < length bytes → without_memory < attributes_here bytes → TakesMemory (pieces_from line 0 bytes)
unfolding pieces_from
pieces_from-memory line [] some h = absurd (omega arith)
pieces_from-memory line (b ∷ bytes) some h =
    takes_by line (b ∷ bytes) (piece_at line (b ∷ bytes)) (λ rest. pieces_from (line_after line b) (length bytes - length rest) bytes)
    (piece_of-all (opening_at (b ∷ bytes)).0 line (opening_at (b ∷ bytes)).1) h

pub PassesOver-fault : (line : ℕ) (bytes : List ℕ) (stop : Stop) → 0 < length bytes → Stops stop (piece_at line bytes) → (stop ≡ stops.Mem → without_memory < attributes_here bytes)
    → PassesOver (pieces_from line 0 bytes) (Err (fault_on line stop))
PassesOver-fault line bytes (stops.Form kind) some is memory = rw (pieces_from-fault line bytes kind some is) refl
PassesOver-fault line bytes stops.Mem some is memory = pieces_from-memory line bytes some (memory refl)

-- a way to the next piece is what the reader answers
pub GivesNext-moved : (before left : Pieces) (tag : Option Tag) (line : ℕ) (rest : Bor (List ℕ)) → left ≡ before → MovesOn left (Ok (tag, line, rest)) → GivesNext before (Ok tag) (pieces_from line 0 rest.now)
unfolding pieces_from
GivesNext-moved before left (Some tag) line rest same moved = sym same ∙ moved
GivesNext-moved before left None line rest same moved = rw moved.0 (sym moved.1 ∙ same, (line, sym same ∙ moved.1))
