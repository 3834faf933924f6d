-- The text of a certificate reads back as it.
use Rattle.std.proofs.Common.{◌≡◌, ℕ, zero, suc, ◌+◌, ◌^◌, ◌<◌, ◌≤◌, ◌==◌, true, false, List, [], ◌∷◌, ◌++◌}
use Rattle.std.proofs.Common.{append_assoc, get_or, Option, Some, None, Result, Ok, Err, codes, decimal, refl, sym, ap}
use Rattle.std.proofs.Common.{◌∙◌, arith, subst}
use Rattle.std.specs.Prelude.{nat_le, nat_lt}
use Rattle.std.specs.Fmt.{digits}
use Rattle.std.specs.List.{All, list_all}
use Rattle.std.proofs.lemmas.Bool.{leb-true, lt-ltb}
use Rattle.std.proofs.lemmas.Bool.Decides.{nat_tests}
use Rattle.std.proofs.lemmas.Fmt.{first_decimal}
use Rattle.std.proofs.lemmas.List.{append-nil}
use Rattle.std.proofs.lemmas.List.Elements.{All-append, All-cons, All-nil, All-weaker}
use Rattle.robin_io.proofs.NumberLemmas.{is_number-decimal}
use Rattle.refutation.specs.Cuts.{Lacks}
use Rattle.refutation.specs.Logs.{Fault, Line, Reading, after, end_from, go_on, line_of, lines_from, lines_of, log_of}
use Rattle.refutation.specs.Logs.{whole}
use Rattle.refutation.specs.Logs.Line.{End, Heading, Says}
use Rattle.refutation.specs.SeenPlace.{is_line_feed}
use Rattle.refutation.specs.Steps.{Step}
use Rattle.refutation.specs.declared.fault.LogKind.{LogKind}
use Rattle.refutation.specs.declared.version.Version.{Version}
use Rattle.refutation.proofs.LogTexts.{line_feed-apart}
use Rattle.refutation.proofs.NumberTexts.{decimal-token, number-decimal}
use Rattle.refutation.proofs.SplitLemmas.{split-part, split-parts}
use Rattle.refutation.proofs.StepLemmas.{both}
use Rattle.bounds.specs.Certificates.{bound_line, bound_of, certificate_in, certificate_of}
use Rattle.bounds.specs.Certificates.{is_shortest, later_log, log_behind, number_in, stated_by, with_log}
use Rattle.bounds.specs.declared.certificate.Certificate.{Certificate}
use Rattle.bounds.proofs.ReadLemmas.{log_behind-some, stated-first}

-- ---- the number

shortest-first : (ds : List ℕ) → 48 < get_or ds 0 0 → is_shortest ds ≡ true
shortest-first [] above = refl
shortest-first (b ∷ []) above = refl
shortest-first (b ∷ c ∷ ds) above = let is : (b == 48) ≡ false = grind (arith, nat_tests) in rw is refl

shortest-zero : is_shortest (decimal 0) ≡ true
unfolding digits
shortest-zero = refl

shortest-decimal : (n : ℕ) → n < 2 ^ 64 → is_shortest (decimal n) ≡ true
shortest-decimal zero small = shortest-zero
shortest-decimal (suc n) small = shortest-first (decimal (suc n)) (first_decimal (suc n) (omega arith) small)

pub number_in-decimal : (n : ℕ) → n < 2 ^ 64 → number_in (decimal n) ≡ Some n
number_in-decimal n small =
    let fits : nat_lt n (2 ^ 64) ≡ true = lt-ltb n (2 ^ 64) small in
    rw (is_number-decimal n small, shortest-decimal n small, number-decimal n small, fits) refl

-- ---- the first line

line-by_test : (text : List ℕ) → list_all (λ b. nat_le 32 b) text ≡ true → All (λ b. 32 ≤ b) text
line-by_test [] is = All-nil (λ (b : ℕ). 32 ≤ b)
line-by_test (b ∷ text) is =
    let parts = both (nat_le 32 b) (list_all (λ b. nat_le 32 b) text) is in
    All-cons (λ (b : ℕ). 32 ≤ b) b text (leb-true 32 b parts.0) (line-by_test text parts.1)

first-line : (bound : ℕ) → bound < 2 ^ 64 → Lacks is_line_feed (codes "bound " ++ decimal bound)
first-line bound small =
    All-weaker (λ (b : ℕ). 32 ≤ b) (λ (b : ℕ). is_line_feed b ≡ false) line_feed-apart (codes "bound " ++ decimal bound)
    (All-append (λ (b : ℕ). 32 ≤ b) (codes "bound ") (decimal bound) (line-by_test (codes "bound ") refl)
    (All-weaker (λ (b : ℕ). 33 ≤ b) (λ (b : ℕ). 32 ≤ b) (λ b least. omega arith) (decimal bound)
    (decimal-token bound small)))

pub lines_of-stated : (bound : ℕ) (rest : List ℕ) → bound < 2 ^ 64
    → lines_of (bound_line bound ++ rest) ≡ (codes "bound " ++ decimal bound) ∷ lines_of rest
lines_of-stated bound rest small =
    let regrouped : bound_line bound ++ rest ≡ (codes "bound " ++ decimal bound) ++ 10 ∷ rest = simp append_assoc in
    ap lines_of regrouped
    ∙ split-part is_line_feed (codes "bound " ++ decimal bound) 10 rest (first-line bound small) refl

pub certificate-stated : (bound : ℕ) (rest : List ℕ) → bound < 2 ^ 64
    → certificate_of (bound_line bound ++ rest) ≡ with_log bound (log_behind bound (lines_of rest))
certificate-stated bound rest small =
    let stated : bound_of (codes "bound " ++ decimal bound) ≡ Some bound = number_in-decimal bound small in
    ap certificate_in (lines_of-stated bound rest small)
    ∙ stated-first (codes "bound " ++ decimal bound) (lines_of rest) (split-parts is_line_feed rest)
    ∙ ap (λ (found : Option ℕ). stated_by found (lines_of rest)) stated

-- ---- a log that is read from a later line on

end-later : (n m : ℕ) (lines : List (List ℕ)) → (end_from n lines).fault ≡ None → end_from m lines ≡ end_from n lines
end-later n m [] none = cc
end-later n m ([] ∷ []) none = refl
end-later n m ([] ∷ next ∷ lines) none = cc
end-later n m ((b ∷ text) ∷ lines) none = cc

line-later : (said : Result Line LogKind) (version : Option Version) (n m : ℕ) (others more : Option Version → Reading)
    (behind last : Reading) → ((v : Option Version) → (others v).fault ≡ None → more v ≡ others v)
    → (behind.fault ≡ None → last ≡ behind) → (go_on said version n others behind).fault ≡ None
    → go_on said version m more last ≡ go_on said version n others behind
line-later (Err kind) version n m others more behind last later ended none = cc
line-later (Ok (Heading found)) version n m others more behind last later ended none = later (Some found) none
line-later (Ok End) version n m others more behind last later ended none = ended none
line-later (Ok (Says step)) version n m others more behind last later ended none =
    ap (after (step ∷ [])) (later version none)

lines-later : (version : Option Version) (n m : ℕ) (lines : List (List ℕ)) → (lines_from version n lines).fault ≡ None
    → lines_from version m lines ≡ lines_from version n lines
unfolding lines_from
lines-later version n m [] none = cc
lines-later version n m (text ∷ []) none = cc
lines-later version n m (text ∷ next ∷ lines) none =
    line-later (line_of version text) version n m (λ known. lines_from known (n + 1) (next ∷ lines))
    (λ known. lines_from known (m + 1) (next ∷ lines)) (end_from (n + 1) (next ∷ lines))
    (end_from (m + 1) (next ∷ lines)) (λ known. lines-later known (n + 1) (m + 1) (next ∷ lines))
    (end-later (n + 1) (m + 1) (next ∷ lines)) none

whole-same : (steps read : List Step) (fault : Option Fault) (other : Reading)
    → (fault ≡ None → other ≡ record { steps = read; fault = fault })
    → whole (record { steps = read; fault = fault }) ≡ Ok steps → whole other ≡ Ok steps
whole-same steps read None other same is = ap whole (same refl) ∙ is
whole-same steps read (Some fault) other same is = cc

pub later_log-same : (bytes : List ℕ) (steps : List Step) → log_of bytes ≡ Ok steps
    → later_log (lines_of bytes) ≡ Ok steps
later_log-same bytes steps is =
    let first : Reading = lines_from None 1 (lines_of bytes) in
    whole-same steps first.steps first.fault (lines_from None 2 (lines_of bytes))
    (lines-later None 1 2 (lines_of bytes)) is

-- ---- the whole text

pub reads_back-some : (bound : ℕ) (log text : List ℕ) (steps : List Step) → bound < 2 ^ 64 → 0 < bound
    → text ≡ bound_line bound ++ log → log_of log ≡ Ok steps
    → certificate_of text ≡ Ok (record { bound = bound; log = steps })
reads_back-some bound log text steps small some is reads =
    ap certificate_of is ∙ certificate-stated bound log small
    ∙ ap (with_log bound) (log_behind-some bound (lines_of log) some ∙ later_log-same log steps reads)

reads_back-zero : (text : List ℕ) (steps : List Step) → text ≡ bound_line 0 → steps ≡ []
    → certificate_of text ≡ Ok (record { bound = 0; log = steps })
reads_back-zero text steps is none =
    ap certificate_of (is ∙ sym (append-nil (bound_line 0)))
    ∙ certificate-stated 0 [] (omega arith)
    ∙ ap (λ (log : List Step). let said : Result Certificate Fault = Ok (record { bound = 0; log = log }) in said)
    (sym none)

pub reads_back-none : (bound : ℕ) (text : List ℕ) (steps : List Step) → bound ≡ 0 → text ≡ bound_line bound
    → steps ≡ [] → certificate_of text ≡ Ok (record { bound = bound; log = steps })
reads_back-none bound text steps zero_is is none =
    subst
    (λ (b : ℕ). text ≡ bound_line b → certificate_of text ≡ Ok (record { bound = b; log = steps }))
    (sym zero_is) (λ at_zero. reads_back-zero text steps at_zero none) is

-- the text from its pieces
pub text-line : (bound : ℕ) (none first : List ℕ) → none ≡ [] → first ≡ none ++ bound_line bound
    → first ≡ bound_line bound
text-line bound none first empty line = line ∙ ap (λ (xs : List ℕ). xs ++ bound_line bound) empty

pub text-pieces : (bound : ℕ) (none first log slice text : List ℕ) → none ≡ [] → first ≡ none ++ bound_line bound
    → slice ≡ log → text ≡ first ++ slice → text ≡ bound_line bound ++ log
text-pieces bound none first log slice text empty line same is =
    is ∙ ap (λ (xs : List ℕ). xs ++ slice) (text-line bound none first empty line)
    ∙ ap (λ (xs : List ℕ). bound_line bound ++ xs) same
