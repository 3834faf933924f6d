-- A text that is read is the text of its steps.
use Rattle.std.proofs.Common.{◌≡◌, ℕ, ◌+◌, Bool, true, false, List, [], ◌∷◌, ◌++◌, append_assoc, Option, Some, None}
use Rattle.std.proofs.Common.{length, refl, ap, subst, sym, ◌∙◌}
use Rattle.std.specs.Prelude.{bytes_eq, codes, nat_le, Result, Ok, Err}
use Rattle.std.specs.List.{All, flat_map, join_with_byte}
use Rattle.std.proofs.lemmas.List.Elements.{All-cons, All-nil}
use Rattle.std.proofs.lemmas.List.Splits.{join_with_byte-slice_split}
use Rattle.std.proofs.lemmas.Slice.Eq.{bytes_eq-Decides}
use Rattle.refutation.specs.Steps.{Step}
use Rattle.refutation.specs.Lines.{◌>>=◌, step_line}
use Rattle.refutation.specs.Logs.{Fault, Line, Reading, end_from, go_on, heading_of, line_of, lines_from, lines_of}
use Rattle.refutation.specs.Logs.{log_of, most_bytes, whole, words_of}
use Rattle.refutation.specs.Logs.Line.{Heading, End, Says}
use Rattle.refutation.specs.Texts.{heading_text, step_line_text, step_text, text_in}
use Rattle.refutation.specs.Writable.{CanSay, IsLogText}
use Rattle.refutation.specs.declared.fault.LogKind.{LogKind}
use Rattle.refutation.specs.declared.version.Version.{Version}
use Rattle.refutation.specs.declared.version.Version.TheVariants.{One, Two}
use Rattle.refutation.proofs.ReadTokens.{step_line-says, step_line-text}

-- ---- one line

-- the bytes of a line of a log of this version
abbrev pub IsText : Option Version → Line → List ℕ → Type 0
IsText (Some version) (Says step) text = (text ≡ step_text version step) × CanSay version step
IsText (Some version) End text = text ≡ codes "end"
IsText None (Heading version) text = text ++ codes "\n" ≡ heading_text version
IsText version _ text = ⊥

said : (version : Version) (text : List ℕ) (line : Line) (read : Result Step LogKind)
    → step_line version text ≡ read → (read >>= λ step. Ok (Says step)) ≡ Ok line → IsText (Some version) line text
said version text line (Err kind) same is = cc
said version text line (Ok step) same is =
    let here : Says step ≡ line = cc in
    subst (λ (l : Line). IsText (Some version) l text) here
    (step_line-text version text step same, step_line-says version text step same)

ended : (version : Version) (text : List ℕ) (line : Line) (is_end : Bool) → bytes_eq text (codes "end") ≡ is_end
    → words_of (Some version) text ≡ Ok line → IsText (Some version) line text
ended version text line true same is =
    let words : words_of (Some version) text ≡ Ok End = rw same refl in
    let here : End ≡ line = cc in
    subst (λ (l : Line). IsText (Some version) l text) here ((bytes_eq-Decides text (codes "end")).0 same)
ended version text line false same is = said version text line (step_line version text) refl (rw same at is)

headed : (text : List ℕ) (line : Line) (one two : Bool) → bytes_eq text (codes "refutation 1") ≡ one
    → bytes_eq text (codes "refutation 2") ≡ two → heading_of text ≡ Ok line → IsText None line text
headed text line true two is_one is_two is =
    let words : heading_of text ≡ Ok (Heading One) = rw is_one refl in
    let here : Heading One ≡ line = cc in
    subst (λ (l : Line). IsText None l text) here (ap (λ (xs : List ℕ). xs ++ codes "\n")
    ((bytes_eq-Decides text (codes "refutation 1")).0 is_one))
headed text line false true is_one is_two is =
    let words : heading_of text ≡ Ok (Heading Two) = rw (is_one, is_two) refl in
    let here : Heading Two ≡ line = cc in
    subst (λ (l : Line). IsText None l text) here (ap (λ (xs : List ℕ). xs ++ codes "\n")
    ((bytes_eq-Decides text (codes "refutation 2")).0 is_two))
headed text line false false is_one is_two is = let words = rw (is_one, is_two) at is in cc

words_text : (version : Option Version) (text : List ℕ) (line : Line) → words_of version text ≡ Ok line
    → IsText version line text
words_text None text line is = headed text line (bytes_eq text (codes "refutation 1"))
    (bytes_eq text (codes "refutation 2")) refl refl is
words_text (Some version) text line is = ended version text line (bytes_eq text (codes "end")) refl is

short_text : (version : Option Version) (text : List ℕ) (line : Line) (short : Bool)
    → nat_le (length text) most_bytes ≡ short → line_of version text ≡ Ok line → words_of version text ≡ Ok line
short_text version text line true same is = rw same at is
short_text version text line false same is = let here = rw same at is in cc

line_text : (version : Option Version) (text : List ℕ) (line : Line) → line_of version text ≡ Ok line
    → IsText version line text
line_text version text line is = words_text version text line
    (short_text version text line (nat_le (length text) most_bytes) refl is)

-- ---- all lines

-- a whole log
abbrev pub whole_log : List Step → Reading
whole_log steps = record { steps = steps; fault = None }

-- what the lines are, from a place in a log of this version on
abbrev pub AreLines : Option Version → List (List ℕ) → List Step → Type 0
AreLines (Some version) lines steps = All (CanSay version) steps
    × (join_with_byte 10 lines ≡ flat_map (step_line_text version) steps ++ codes "end\n")
AreLines None lines steps =
    (version : Version) × All (CanSay version) steps × (join_with_byte 10 lines ≡ text_in version steps)

at_end : (line : ℕ) (lines : List (List ℕ)) (steps : List Step) → end_from line lines ≡ whole_log steps
    → (lines ≡ [] ∷ []) × (steps ≡ [])
at_end line [] steps is = let fault = ap (λ (read : Reading). read.fault) is in cc
at_end line ([] ∷ []) steps is = (refl, sym (ap (λ (read : Reading). read.steps) is))
at_end line ((b ∷ bs) ∷ lines) steps is = let fault = ap (λ (read : Reading). read.fault) is in cc
at_end line ([] ∷ next ∷ lines) steps is = let fault = ap (λ (read : Reading). read.fault) is in cc

-- a line, where what the others are is known of each version
line_and : (found : Result Line LogKind) (version : Option Version) (line : ℕ) (text next : List ℕ)
    (lines : List (List ℕ)) (steps : List Step)
    → line_of version text ≡ found → ((known : Option Version) (others : List Step)
    → lines_from known (line + 1) (next ∷ lines) ≡ whole_log others → AreLines known (next ∷ lines) others)
    → go_on found version line (λ known. lines_from known (line + 1) (next ∷ lines))
    (end_from (line + 1) (next ∷ lines)) ≡ whole_log steps → AreLines version (text ∷ next ∷ lines) steps
line_and (Err kind) version line text next lines steps same others is = let fault =
    ap (λ (read : Reading). read.fault) is in cc
line_and (Ok (Heading known)) None line text next lines steps same others is =
    let here : text ++ codes "\n" ≡ heading_text known = line_text None text (Heading known) same in
    let rest = others (Some known) steps is in (
      known,
      rest.0,
      sym (append_assoc text (codes "\n") (join_with_byte 10 (next ∷ lines)))
          ∙ ap (λ (xs : List ℕ). xs ++ join_with_byte 10 (next ∷ lines)) here
          ∙ ap (λ (xs : List ℕ). heading_text known ++ xs) rest.1,
    )
line_and (Ok (Heading known)) (Some version) line text next lines steps same others is =
    absurd (line_text (Some version) text (Heading known) same)
line_and (Ok End) None line text next lines steps same others is = absurd (line_text None text End same)
line_and (Ok End) (Some version) line text next lines steps same others is =
    let end = at_end (line + 1) (next ∷ lines) steps is in
    let here : text ≡ codes "end" = line_text (Some version) text End same in (
      subst (λ (ss : List Step). All (CanSay version) ss) (sym end.1) (All-nil (CanSay version)),
      ap (λ (ls : List (List ℕ)). join_with_byte 10 (text ∷ ls)) end.0 ∙ ap (λ (xs : List ℕ). xs ++ codes "\n") here
          ∙ ap (λ (ss : List Step). flat_map (step_line_text version) ss ++ codes "end\n") (sym end.1),
    )
line_and (Ok (Says step)) None line text next lines steps same others is =
    absurd (line_text None text (Says step) same)
line_and (Ok (Says step)) (Some version) line text next lines steps same others is =
    let read : Reading = lines_from (Some version) (line + 1) (next ∷ lines) in
    let fault : read.fault ≡ None = ap (λ (r : Reading). r.fault) is in
    let all : step ∷ read.steps ≡ steps = ap (λ (r : Reading). r.steps) is in
    let rest = others (Some version) read.steps (ap
    (λ (f : Option Fault). let r : Reading = record { steps = read.steps; fault = f } in r) fault) in
    let here : (text ≡ step_text version step) × CanSay version step =
    line_text (Some version) text (Says step) same in (
      subst (λ (ss : List Step). All (CanSay version) ss) all (All-cons (CanSay version) step read.steps here.1 rest.0),
      ap (λ (xs : List ℕ). text ++ 10 ∷ xs) rest.1
          ∙ ap (λ (xs : List ℕ). xs ++ 10 ∷ (flat_map (step_line_text version) read.steps ++ codes "end\n")) here.0
          ∙ sym (simp append_assoc)
          ∙ ap (λ (ss : List Step). flat_map (step_line_text version) ss ++ codes "end\n") all,
    )

lines_text : (version : Option Version) (line : ℕ) (lines : List (List ℕ)) (steps : List Step)
    → lines_from version line lines ≡ whole_log steps → AreLines version lines steps
unfolding lines_from
lines_text version line [] steps is = let fault = ap (λ (read : Reading). read.fault) is in cc
lines_text version line (text ∷ []) steps is = let fault = ap (λ (read : Reading). read.fault) is in cc
lines_text version line (text ∷ next ∷ lines) steps is =
    line_and (line_of version text) version line text next lines steps refl
    (λ known others. lines_text known (line + 1) (next ∷ lines) others) is

-- ---- the whole text

whole-read : (read : Reading) (fault : Option Fault) (steps : List Step) → read.fault ≡ fault
    → whole read ≡ Ok steps → read ≡ whole_log steps
whole-read read None steps same is =
    let all : whole read ≡ Ok read.steps = rw same refl in
    let steps_are : read.steps ≡ steps = cc in
    ap (λ (f : Option Fault). let r : Reading = record { steps = read.steps; fault = f } in r) same
    ∙ ap whole_log steps_are
whole-read read (Some fault) steps same is = let here = rw same at is in cc

-- the bytes of a log are one of its two texts, in a version that can say its steps
pub log_of-text : (bytes : List ℕ) (steps : List Step) → log_of bytes ≡ Ok steps → IsLogText bytes steps
log_of-text bytes steps is =
    let read : Reading = lines_from None 1 (lines_of bytes) in
    let text = lines_text None 1 (lines_of bytes) steps (whole-read read read.fault steps refl is) in
    (text.0, text.1, sym (join_with_byte-slice_split 10 bytes) ∙ text.2)
