-- The text of a log reads back as the log.
use Rattle.std.proofs.Common.{◌≡◌, ℕ, ◌+◌, ◌<◌, ◌≤◌, ◌==◌, Bool, true, false, List, [], ◌∷◌, ◌++◌, length}
use Rattle.std.proofs.Common.{append_assoc, Option, Some, None, refl, arith, ap, sym, ◌∙◌, decimal}
use Rattle.std.specs.Prelude.{codes, if◌then◌else◌, nat_le, bytes_eq, Result, Ok}
use Rattle.std.specs.List.{All, flat_map, list_all, list_any}
use Rattle.std.proofs.lemmas.Bool.{le-leb, leb-true}
use Rattle.std.proofs.lemmas.Bool.Decides.{nat_tests}
use Rattle.std.proofs.lemmas.List.Elements.{All-nil, All-cons, All-append, All-head, All-tail, All-weaker}
use Rattle.std.proofs.lemmas.List.Splits.{length-slice_split, slice_split_at}
use Rattle.std.proofs.lemmas.Slice.Eq.{bytes_eq-Decides}
use Rattle.rows.specs.Literals.{Literal}
use Rattle.refutation.specs.Steps.{Step, NamesRows, is_linear}
use Rattle.refutation.specs.Steps.Step.{Clause, Linear}
use Rattle.refutation.specs.Lines.{step_line}
use Rattle.refutation.specs.Logs.{Line, Reading, end_from, go_on, line_of, lines_from, lines_of, log_of, most_bytes}
use Rattle.refutation.specs.Logs.{whole}
use Rattle.refutation.specs.Logs.Line.{Says}
use Rattle.refutation.specs.Texts.{clause_text, heading_text, linear_text, literal_text, literal_token, log_text}
use Rattle.refutation.specs.Texts.{number_text, part_text, step_line_text, step_text, text_in, version_of}
use Rattle.refutation.specs.Writable.{HasShortLines}
use Rattle.refutation.specs.Written.{HasSmallNumbers, IsFactored, IsOf, IsSmall, IsVariable}
use Rattle.refutation.specs.declared.fault.LogKind.{LogKind}
use Rattle.refutation.specs.declared.step.Part.{Part}
use Rattle.refutation.specs.declared.version.Version.{Version}
use Rattle.refutation.specs.declared.version.Version.TheVariants.{One, Two}
use Rattle.refutation.proofs.StepLemmas.{both, neither}
use Rattle.refutation.proofs.NumberTexts.{IsToken, decimal-token, literal-token}
use Rattle.refutation.proofs.StepTexts.{step_line-step_text}

-- ---- one line

-- bytes among which there is no LF
abbrev pub IsLine : List ℕ → Type 0
IsLine text = All (λ b. 32 ≤ b) text

pub line_feed-apart : (b : ℕ) → 32 ≤ b → (b == 10) ≡ false
line_feed-apart b least = grind (arith, nat_tests)

lines_of-line : (text rest : List ℕ) → IsLine text → lines_of (text ++ 10 ∷ rest) ≡ text ∷ lines_of rest
lines_of-line text rest is =
    slice_split_at (λ b. b == 10) text 10 rest (All-weaker (λ (b : ℕ). 32 ≤ b)
    (λ (b : ℕ). (b == 10) ≡ false) line_feed-apart text is) refl

-- a line behind which there are others
lines_from-more : (version : Option Version) (line : ℕ) (text : List ℕ) (lines : List (List ℕ)) → 0 < length lines
    → lines_from version line (text ∷ lines) ≡ go_on (line_of version text) version line
    (λ known. lines_from known (line + 1) lines) (end_from (line + 1) lines)
unfolding lines_from
lines_from-more version line text [] some = absurd (omega arith)
lines_from-more version line text (next ∷ lines) some = refl

-- a line with its LF, and what comes then
pub lines_from-line : (version : Option Version) (line : ℕ) (text rest : List ℕ) → IsLine text
    → lines_from version line (lines_of (text ++ 10 ∷ rest))
    ≡ go_on (line_of version text) version line (λ known. lines_from known (line + 1) (lines_of rest))
    (end_from (line + 1) (lines_of rest))
lines_from-line version line text rest is =
    ap (lines_from version line) (lines_of-line text rest is)
    ∙ lines_from-more version line text (lines_of rest) (omega (arith, length-slice_split (λ (b : ℕ). b == 10) rest))

-- ---- the line of a step

-- what a line is, by a test
line-by_test : (text : List ℕ) → list_all (λ b. nat_le 32 b) text ≡ true → IsLine text
line-by_test [] is = All-nil (λ (b : ℕ). 32 ≤ b)
line-by_test (b ∷ text) is =
    let parts = both (nat_le 32 b) (list_all (λ b. nat_le 32 b) text) is in
    All-cons (λ (b : ℕ). 32 ≤ b) b text (leb-true 32 b parts.0) (line-by_test text parts.1)

token-line : (token : List ℕ) → IsToken token → IsLine (token ++ codes " ")
token-line token is =
    All-append (λ (b : ℕ). 32 ≤ b) token (codes " ")
    (All-weaker (λ (b : ℕ). 33 ≤ b) (λ (b : ℕ). 32 ≤ b) (λ b least. omega arith) token is)
    (line-by_test (codes " ") refl)

flat_map-line : {X : Type 0} (f : X → List ℕ) (xs : List X) → All (λ x. IsLine (f x)) xs → IsLine (flat_map f xs)
flat_map-line {X} f [] are = All-nil (λ (b : ℕ). 32 ≤ b)
flat_map-line {X} f (x ∷ xs) are =
    All-append (λ (b : ℕ). 32 ≤ b) (f x) (flat_map f xs) (All-head (λ (x : X). IsLine (f x)) x xs are)
    (flat_map-line f xs (All-tail (λ (x : X). IsLine (f x)) x xs are))

number-line : (n : ℕ) → IsSmall n → IsLine (number_text n)
number-line n small = token-line (decimal n) (decimal-token n small)

clause-line : (clause : List Literal) (hints : List ℕ) → All IsVariable clause → All IsSmall hints
    → IsLine (clause_text clause hints)
clause-line clause hints lits small =
    let P : ℕ → Type 0 = λ (b : ℕ). 32 ≤ b in
    All-append P (flat_map literal_text clause) (codes "0 " ++ (flat_map number_text hints ++ codes "0"))
    (flat_map-line literal_text clause (All-weaker IsVariable (λ (lit : Literal). IsLine (literal_text lit))
    (λ lit is. token-line (literal_token lit) (literal-token lit is)) clause lits))
    (All-append P (codes "0 ") (flat_map number_text hints ++ codes "0") (line-by_test (codes "0 ") refl)
    (All-append P (flat_map number_text hints) (codes "0")
    (flat_map-line number_text hints (All-weaker IsSmall (λ (n : ℕ). IsLine (number_text n)) number-line hints small))
    (line-by_test (codes "0") refl)))

linear-line : (parts : List Part) (divisor : ℕ) → All IsFactored parts → IsSmall divisor
    → IsLine (linear_text parts divisor)
linear-line parts divisor are small =
    let P : ℕ → Type 0 = λ (b : ℕ). 32 ≤ b in
    All-append P (flat_map part_text parts) (codes "0 " ++ decimal divisor)
    (flat_map-line part_text parts (All-weaker IsFactored (λ (part : Part). IsLine (part_text part))
    (λ part is. All-append P (number_text part.factor) (number_text part.row)
    (number-line part.factor is.small_factor) (number-line part.row is.small_row)) parts are))
    (All-append P (codes "0 ") (decimal divisor) (line-by_test (codes "0 ") refl)
    (All-weaker (λ (b : ℕ). 33 ≤ b) P (λ b least. omega arith) (decimal divisor) (decimal-token divisor small)))

-- the line of a step has no LF
pub step-line : (version : Version) (step : Step) → HasSmallNumbers step → IsLine (step_text version step)
step-line One (Clause clause hints) small = clause-line clause hints small.0 small.1
step-line Two (Clause clause hints) small =
    All-append (λ (b : ℕ). 32 ≤ b) (codes "c ") (clause_text clause hints) (line-by_test (codes "c ") refl)
    (clause-line clause hints small.0 small.1)
step-line version (Linear parts divisor) small =
    All-append (λ (b : ℕ). 32 ≤ b) (codes "l ") (linear_text parts divisor) (line-by_test (codes "l ") refl)
    (linear-line parts divisor small.0 small.2)

-- `end` says no step
end-no_step : (version : Version) (step : Step) → step_line version (codes "end") ≡ Ok step → ⊥
end-no_step One step is = cc
end-no_step Two step is = cc

isnt_end-by : (version : Version) (text : List ℕ) (step : Step) (test : Bool) → bytes_eq text (codes "end") ≡ test
    → step_line version text ≡ Ok step → test ≡ false
isnt_end-by version text step false same is = refl
isnt_end-by version text step true same is =
    absurd (end-no_step version step (ap (step_line version) (sym ((bytes_eq-Decides text (codes "end")).0 same))
    ∙ is))

isnt_end : (version : Version) (text : List ℕ) (step : Step) → step_line version text ≡ Ok step
    → bytes_eq text (codes "end") ≡ false
isnt_end version text step is = isnt_end-by version text step (bytes_eq text (codes "end")) refl is

pub line_of-step : (version : Version) (text : List ℕ) (step : Step) → step_line version text ≡ Ok step
    → length text ≤ most_bytes → line_of (Some version) text ≡ Ok (Says step)
line_of-step version text step is short =
    let fits : nat_le (length text) most_bytes ≡ true = le-leb (length text) most_bytes short in
    let more : bytes_eq text (codes "end") ≡ false = isnt_end version text step is in
    rw (fits, more, is) refl

-- ---- all lines

-- what a step needs to be read back
pub record IsRead (version : Version) (step : Step) : Type 0 where
  pub of : IsOf version step
  pub small : HasSmallNumbers step
  pub rows : NamesRows step
  pub short : length (step_text version step) ≤ most_bytes

end_lines : (version : Version) (line : ℕ) → lines_from (Some version) line (lines_of (codes "end\n"))
    ≡ record { steps = []; fault = None }
unfolding lines_from
end_lines version line = refl

pub step_lines : (version : Version) (line : ℕ) (steps : List Step) → All (IsRead version) steps
    → lines_from (Some version) line (lines_of (flat_map (step_line_text version) steps ++ codes "end\n"))
    ≡ record { steps = steps; fault = None }
step_lines version line [] are = end_lines version line
step_lines version line (step ∷ steps) are =
    let is = All-head (IsRead version) step steps are in
    let text : List ℕ = step_text version step in
    let rest : List ℕ = flat_map (step_line_text version) steps ++ codes "end\n" in
    let regrouped : flat_map (step_line_text version) (step ∷ steps) ++ codes "end\n" ≡ text ++ 10 ∷ rest =
    simp append_assoc in
    let says : line_of (Some version) text ≡ Ok (Says step) =
    line_of-step version text step (step_line-step_text version step is.of is.small is.rows) is.short in
    ap (λ (xs : List ℕ). lines_from (Some version) line (lines_of xs)) regrouped
    ∙ lines_from-line (Some version) line text rest (step-line version step is.small)
    ∙ ap (λ (found : Result Line LogKind). go_on found (Some version) line
    (λ known. lines_from known (line + 1) (lines_of rest)) (end_from (line + 1) (lines_of rest))) says
    ∙ ap (λ (read : Reading). let whole : Reading = record { steps = step ∷ read.steps; fault = read.fault } in
    whole) (step_lines version (line + 1) steps (All-tail (IsRead version) step steps are))

heading_lines : (version : Version) (rest : List ℕ)
    → lines_from None 1 (lines_of (heading_text version ++ rest)) ≡ lines_from (Some version) 2 (lines_of rest)
heading_lines One rest = lines_from-line None 1 (codes "refutation 1") rest (line-by_test (codes "refutation 1") refl)
heading_lines Two rest = lines_from-line None 1 (codes "refutation 2") rest (line-by_test (codes "refutation 2") refl)

pub log_of-text_in : (version : Version) (steps : List Step) → All (IsRead version) steps
    → log_of (text_in version steps) ≡ Ok steps
log_of-text_in version steps are =
    ap whole (heading_lines version (flat_map (step_line_text version) steps ++ codes "end\n")
    ∙ step_lines version 2 steps are)

-- ---- the version

IsOf-clause : (step : Step) → is_linear step ≡ false → IsOf One step
IsOf-clause (Clause clause hints) is = tt
IsOf-clause (Linear parts divisor) is = cc

all_of : (steps : List Step) (linear : Bool) → list_any is_linear steps ≡ linear
    → All (IsOf (if linear then Two else One)) steps
all_of steps true is = λ k d there. tt
all_of [] false is = All-nil (IsOf One)
all_of (step ∷ steps) false is =
    let parts = neither (is_linear step) (list_any is_linear steps) is in
    All-cons (IsOf One) step steps (IsOf-clause step parts.0) (all_of steps false parts.1)

-- a log's text reads back as the log
pub log_of-log_text : (steps : List Step) → All HasSmallNumbers steps → All NamesRows steps → HasShortLines steps
    → log_of (log_text steps) ≡ Ok steps
log_of-log_text steps small rows short =
    let of : All (IsOf (version_of steps)) steps = all_of steps (list_any is_linear steps) refl in
    log_of-text_in (version_of steps) steps
    (λ k d there. record {
      of = of k d there;
      small = small k d there;
      rows = rows k d there;
      short =
          short k d there;
    })

-- the text from its pieces
pub log_text-pieces : (version : Version) (steps : List Step) (none first middle text : List ℕ)
    → version ≡ version_of steps → none ≡ [] → first ≡ none ++ heading_text version
    → middle ≡ first ++ flat_map (step_line_text version) steps → text ≡ middle ++ codes "end\n"
    → text ≡ log_text steps
log_text-pieces version steps none first middle text is empty heading lines last =
    last
    ∙ ap (λ (xs : List ℕ). xs ++ codes "end\n") (lines
    ∙ ap (λ (xs : List ℕ). xs ++ flat_map (step_line_text version) steps)
    (heading ∙ ap (λ (xs : List ℕ). xs ++ heading_text version) empty))
    ∙ append_assoc (heading_text version) (flat_map (step_line_text version) steps) (codes "end\n")
    ∙ ap (λ (v : Version). text_in v steps) is
