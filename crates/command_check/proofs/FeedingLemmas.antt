-- A log whose steps are judged while it is read.
use Rattle.std.proofs.Common.{◌≡◌, ℕ, ◌+◌, ◌-◌, ◌^◌, ◌<◌, ◌≤◌, List, [], ◌∷◌, ◌++◌, length, take, length-take-le, Option, Some, None, Result, Ok, Err}
use Rattle.std.specs.Prelude.{IfSome}
use Rattle.std.specs.Io.KnownBytes.{Consumes, IsAtEnd, Keeps}
use Rattle.robin_io.specs.Counts.{raised}
use Rattle.std.proofs.Common.{refl, sym, ap, subst, ◌∙◌, arith, append_assoc, length-append}
use Rattle.std.specs.List.{fold}
use Rattle.std.proofs.lemmas.List.{append-nil, take-append-le}
use Rattle.std.proofs.lemmas.List.Splits.{length-slice_split}
use Rattle.std.proofs.lemmas.List.Sums.{count_by-le-length, fold-append}
use Rattle.answers.specs.Stages.{reads}
use Rattle.refutation.specs.Steps.{Step}
use Rattle.refutation.specs.Logs.{Line, Reading, after, end_from, go_on, line_of, lines_from, lines_of, log_of}
use Rattle.refutation.specs.Logs.{no_steps_but, nothing_more, whole}
use Rattle.refutation.specs.Logs.Line.{End, Heading, Says}
use Rattle.refutation.specs.Places.{Place, log_from, start}
use Rattle.refutation.specs.Feeding.{ReadsOn}
use Rattle.refutation.specs.SeenPlace.{is_line_feed}
use Rattle.refutation.specs.declared.fault.LogKind.{LogKind}
use Rattle.refutation.specs.declared.version.Version.{Version}
use Rattle.refutation_check.specs.Judged.{Judged, after_step}
use Rattle.command_check.specs.Check.{most_log_bytes}
use Rattle.command_check.specs.Feeding.{ChecksFile, ChecksOn, IsUnderWay}

-- ---- a text has no more steps than lines

end-none : (line : ℕ) (lines : List (List ℕ)) → length (end_from line lines).steps ≤ 0
end-none line [] = omega arith
end-none line ([] ∷ []) = omega arith
end-none line ((b ∷ bytes) ∷ []) = omega arith
end-none line ([] ∷ next ∷ lines) = omega arith
end-none line ((b ∷ bytes) ∷ next ∷ lines) = omega arith

go-few : (said : Result Line LogKind) (version : Option Version) (line : ℕ) (others : Option Version → Reading) (behind : Reading) (most : ℕ)
    → ((known : Option Version) → length (others known).steps ≤ most) → length behind.steps ≤ 0
    → length (go_on said version line others behind).steps ≤ most + 1
go-few (Err kind) version line others behind most few none = omega arith
go-few (Ok (Heading found)) version line others behind most few none = omega (arith, few (Some found))
go-few (Ok End) version line others behind most few none = omega arith
go-few (Ok (Says step)) version line others behind most few none = omega (arith, few version)

lines-one : (version : Option Version) (line : ℕ) (text : List ℕ) → length (lines_from version line (text ∷ [])).steps ≤ 0
unfolding lines_from
lines-one version line text = omega arith

lines-none : (version : Option Version) (line : ℕ) → length (lines_from version line []).steps ≤ 0
unfolding lines_from
lines-none version line = omega arith

lines-more : (version : Option Version) (line : ℕ) (text next : List ℕ) (lines : List (List ℕ))
    → lines_from version line (text ∷ next ∷ lines) ≡ go_on (line_of version text) version line (λ known. lines_from known (line + 1) (next ∷ lines)) (end_from (line + 1) (next ∷ lines))
unfolding lines_from
lines-more version line text next lines = refl

lines-few : (version : Option Version) (line : ℕ) (lines : List (List ℕ)) → length (lines_from version line lines).steps ≤ length lines
lines-few version line [] = omega (arith, lines-none version line)
lines-few version line (text ∷ []) = omega (arith, lines-one version line text)
lines-few version line (text ∷ next ∷ lines) =
    let others : Option Version → Reading = λ known. lines_from known (line + 1) (next ∷ lines) in
    let few = go-few (line_of version text) version line others (end_from (line + 1) (next ∷ lines)) (length (next ∷ lines)) (λ known. lines-few known (line + 1) (next ∷ lines)) (end-none (line + 1) (next ∷ lines)) in
    let is = ap (λ (read : Reading). length read.steps) (lines-more version line text next lines) in
    omega (arith, few, is)

text-few : (bytes : List ℕ) → length (log_from start bytes).steps ≤ length bytes + 1
text-few bytes =
    let few = lines-few None 1 (lines_of bytes) in
    let count = length-slice_split is_line_feed bytes in
    let least = count_by-le-length is_line_feed bytes in
    omega arith

-- no more steps were judged than there are bytes and one
pub checked-few : (old : Judged) (bytes : List ℕ) (now : Place) (new : Judged) (count : ℕ) → ChecksOn start old bytes now new count → count ≤ length bytes + 1
checked-few old bytes now new count checked =
    let few = text-few (bytes ++ []) in
    let is = ap (λ (read : Reading). length read.steps) (checked.read []) in
    let parts = length-append checked.steps (log_from now []).steps in
    let same = ap length (append-nil bytes) in
    omega (arith, checked.counted)

-- ---- pieces

-- nothing was read yet
pub checked-none : (at : Place) (old : Judged) → ChecksOn at old [] at old 0
checked-none at old = record { steps = []; read = λ rest. refl; judged = refl; counted = refl }

-- a piece
unfoldable pub checked-piece : (before now : Place) (none steps : List Step) (old new : Judged) (piece : List ℕ) → none ≡ [] → ReadsOn before none piece now steps → new ≡ fold after_step old steps
    → ChecksOn before old piece now new (length steps)
checked-piece before now none steps old new piece empty reads judged =
    let all : steps ≡ reads.added = reads.steps ∙ ap (λ l. l ++ reads.added) empty in
    record { steps = reads.added; read = reads.read; judged = judged ∙ ap (fold after_step old) all; counted = ap length all }

-- one more piece
unfoldable pub checked-then : (a b c : Place) (s t u : Judged) (front piece : List ℕ) (m n : ℕ) → ChecksOn a s front b t m → ChecksOn b t piece c u n → ChecksOn a s (front ++ piece) c u (m + n)
checked-then a b c s t u front piece m n first second = record {
  steps = first.steps ++ second.steps;
  read = λ rest.
      ap (log_from a) (append_assoc front piece rest)
      ∙ first.read (piece ++ rest)
      ∙ ap (after first.steps) (second.read rest)
      ∙ ap (λ steps. let read : Reading = record { steps = steps; fault = (log_from c rest).fault } in read)
      (sym (append_assoc first.steps second.steps (log_from c rest).steps));
  judged = second.judged ∙ ap (λ state. fold after_step state second.steps) first.judged ∙ sym (fold-append after_step s first.steps second.steps);
  counted = let parts = length-append first.steps second.steps in omega (arith, first.counted, second.counted);
}

-- ---- the end

-- what the whole text says, where no fault is left at its end
pub log-ended : (old : Judged) (bytes : List ℕ) (now : Place) (new : Judged) (count : ℕ) (checked : ChecksOn start old bytes now new count) → log_from now [] ≡ nothing_more → log_of bytes ≡ Ok checked.steps
log-ended old bytes now new count checked ended =
    ap (λ (l : List ℕ). log_of l) (sym (append-nil bytes))
    ∙ ap whole (checked.read [] ∙ ap (after checked.steps) ended)
    ∙ ap Ok (append-nil checked.steps)

-- what the whole text says, where a fault is left at its end
pub log-faulty : (old : Judged) (bytes : List ℕ) (now : Place) (new : Judged) (count : ℕ) (kind : LogKind) (line : ℕ) → ChecksOn start old bytes now new count → log_from now [] ≡ no_steps_but kind line → log_of bytes ≡ Err (kind, line)
log-faulty old bytes now new count kind line checked fault =
    ap (λ (l : List ℕ). log_of l) (sym (append-nil bytes))
    ∙ ap whole (checked.read [] ∙ ap (after checked.steps) fault)

-- ---- a loop over the pieces of a file

consumes-none : (known left : Option (List ℕ)) → Keeps known left → Consumes known left []
consumes-none None left keeps = tt
consumes-none (Some file) None keeps = absurd keeps
consumes-none (Some file) (Some rest) keeps = sym keeps

pub consumes-then : (known between left : Option (List ℕ)) (front piece : List ℕ) → Consumes known between front → Consumes between left piece → Consumes known left (front ++ piece)
consumes-then None between left front piece first second = tt
consumes-then (Some file) None left front piece first second = absurd first
consumes-then (Some file) (Some rest) None front piece first second = absurd second
consumes-then (Some file) (Some rest) (Some behind) front piece first second = first ∙ ap (λ l. front ++ l) second ∙ sym (append_assoc front piece behind)

whole-file : (known left : Option (List ℕ)) (bytes : List ℕ) → Consumes known left bytes → IsAtEnd left → IfSome known (λ file. bytes ≡ file)
whole-file None left bytes consumed ended = tt
whole-file (Some file) None bytes consumed ended = absurd consumed
whole-file (Some file) (Some rest) bytes consumed ended = sym (consumed ∙ ap (λ l. bytes ++ l) ended ∙ append-nil bytes)

long-file : (known left : Option (List ℕ)) (bytes : List ℕ) (limit : ℕ) → Consumes known left bytes → limit < length bytes → IfSome known (λ file. limit < length file)
long-file None left bytes limit consumed long = tt
long-file (Some file) None bytes limit consumed long = absurd consumed
long-file (Some file) (Some rest) bytes limit consumed long =
    let is = ap length consumed in let parts = length-append bytes rest in omega arith

-- the file was started
pub under_way-start : (known left : Option (List ℕ)) (taken_before taken_now : ℕ) (at : Place) (old : Judged) → Keeps known left → taken_now ≡ taken_before → taken_now ≤ 2 ^ 64 - 1 → IsUnderWay known left taken_before taken_now at old at old 0 0
under_way-start known left taken_before taken_now at old keeps same last = record {
  bytes = [];
  length_is = refl;
  within = omega arith;
  consumed = consumes-none known left keeps;
  taken = omega arith;
  checked = checked-none at old;
  line = omega arith;
}

-- one more piece was taken and checked
pub under_way-then : (known between left : Option (List ℕ)) (taken_before taken_between taken_now : ℕ) (a b c : Place) (s t u : Judged) (m n bytes count : ℕ) (piece : List ℕ) → length piece ≡ count
    → IsUnderWay known between taken_before taken_between a s b t m bytes → Consumes between left piece → taken_now ≡ raised taken_between count → bytes + count ≤ most_log_bytes
    → ChecksOn b t piece c u n → c.line ≤ b.line + count → IsUnderWay known left taken_before taken_now a s c u (m + n) (bytes + count)
under_way-then known between left taken_before taken_between taken_now a b c s t u m n bytes count piece is so_far consumed taken within checked line = record {
  bytes = so_far.bytes ++ piece;
  length_is = let parts = length-append so_far.bytes piece in omega (arith, so_far.length_is);
  within = within;
  consumed = consumes-then known between left so_far.bytes piece so_far.consumed consumed;
  taken = omega (arith, so_far.taken);
  checked = checked-then a b c s t u so_far.bytes piece m n so_far.checked checked;
  line = omega (arith, so_far.line);
}

-- one more piece, which stands at the front of a room, was taken and checked
pub under_way-next : (known between left : Option (List ℕ)) (taken_before taken_between taken_now : ℕ) (a b c : Place) (s t u : Judged) (m n bytes count : ℕ) (room rest : List ℕ) → count ≤ length room
    → IsUnderWay known between taken_before taken_between a s b t m bytes → Consumes between left (take count room) → taken_now ≡ raised taken_between count → bytes + count ≤ most_log_bytes
    → ChecksOn b t (take count (room ++ rest)) c u n → c.line ≤ b.line + length (take count (room ++ rest)) → IsUnderWay known left taken_before taken_now a s c u (m + n) (bytes + count)
under_way-next known between left taken_before taken_between taken_now a b c s t u m n bytes count room rest fits so_far consumed taken within checked line =
    let front : take count (room ++ rest) ≡ take count room = take-append-le count room rest fits in
    let is : length (take count room) ≡ count = length-take-le count room fits in
    let same : length (take count (room ++ rest)) ≡ length (take count room) = ap length front in
    under_way-then known between left taken_before taken_between taken_now a b c s t u m n bytes count (take count room) is so_far consumed taken within
    (subst (λ (l : List ℕ). ChecksOn b t l c u n) front checked) (omega (arith, line, is, same))

nothing : (piece : List ℕ) → length piece ≡ 0 → piece ≡ []
nothing [] none = refl
nothing (b ∷ piece) none = absurd (omega arith)

-- the file is at its end: the last piece is empty
pub under_way-whole : (known between left : Option (List ℕ)) (taken_before taken_now : ℕ) (before now : Place) (old new
    : Judged) (count bytes : ℕ) (piece : List ℕ) → length piece ≡ 0
    → IsUnderWay known between taken_before taken_now before old now new count bytes → Consumes between left piece
    → IsAtEnd left → ChecksFile known before old now new count
under_way-whole known between left taken_before taken_now before now old new count bytes piece none so_far consumed ended =
    let all : so_far.bytes ++ piece ≡ so_far.bytes = ap (λ (p : List ℕ). so_far.bytes ++ p) (nothing piece none) ∙ append-nil so_far.bytes in
    let whole : Consumes known left so_far.bytes = subst (λ (l : List ℕ). Consumes known left l) all (consumes-then known between left so_far.bytes piece so_far.consumed consumed) in
    record {
      bytes = so_far.bytes;
      file = record { same = whole-file known left so_far.bytes whole ended; within = omega (arith, so_far.length_is, so_far.within) };
      checked = so_far.checked;
    }

-- a piece was taken that lies beyond the limit
pub under_way-long : (known between left : Option (List ℕ)) (taken_before taken_between taken_now : ℕ) (before now : Place) (old new : Judged) (count bytes more : ℕ) (piece : List ℕ) → length piece ≡ more
    → IsUnderWay known between taken_before taken_between before old now new count bytes → Consumes between left piece → taken_now ≡ raised taken_between more → most_log_bytes < bytes + more
    → (raised taken_before (most_log_bytes + 1) ≤ taken_now) × IfSome known (λ file. most_log_bytes < length file)
under_way-long known between left taken_before taken_between taken_now before now old new count bytes more piece is so_far consumed taken long =
    let parts = length-append so_far.bytes piece in
    (omega (arith, so_far.taken), long-file known left (so_far.bytes ++ piece) most_log_bytes (consumes-then known between left so_far.bytes piece so_far.consumed consumed) (omega (arith, so_far.length_is)))

-- no more steps came than bytes and one
pub under_way-few : (known left : Option (List ℕ)) (taken_before taken_now : ℕ) (before now : Place) (old new : Judged) (count bytes : ℕ) → before ≡ start → IsUnderWay known left taken_before taken_now before old now new count bytes → count ≤ bytes + 1
under_way-few known left taken_before taken_now before now old new count bytes first so_far =
    let checked : ChecksOn start old so_far.bytes now new count = subst (λ (at : Place). ChecksOn at old so_far.bytes now new count) first so_far.checked in
    omega (arith, checked-few old so_far.bytes now new count checked, so_far.length_is)
