-- The lines of a text, and what they are read as.
use Rattle.std.proofs.Common.{◌≡◌, ℕ, ◌<◌, ◌≤◌, ◌^◌, ◌==◌, Bool, false, List, [], ◌∷◌, ◌++◌, append_assoc}
use Rattle.std.proofs.Common.{refl, arith, ap, sym, subst, ◌∙◌, decimal, Option, Some}
use Rattle.std.specs.Prelude.{codes, nat_eq, bytes_eq}
use Rattle.std.specs.List.{All, flat_map, slice_split, starts_with}
use Rattle.std.proofs.lemmas.Bool.Decides.{nat_tests}
use Rattle.std.proofs.lemmas.List.Elements.{All-nil, All-cons, All-head, All-tail, All-append, All-weaker}
use Rattle.std.proofs.lemmas.List.Splits.{slice_split_at, slice_split_none}
use Rattle.rows.specs.declared.lit.Term.{Term}
use Rattle.opb_forms.specs.Opb.{both, coef_in, heading_from, least_from, least_in, lines_of, literal_in, number_in}
use Rattle.opb_forms.specs.Opb.{row_from, row_in, sum_in, terms_in, with_degree, words_of}
use Rattle.opb_forms.specs.Texts.{literal_text, sum_text, term_text, terms_text}
use Rattle.opb_forms.specs.Systems.{IsSmallTerm}
use Rattle.opb_forms.proofs.WordLemmas.{IsLine, by_test, coef-not, coef_in-text, decimal-not, decimal-word}
use Rattle.opb_forms.proofs.WordLemmas.{literal-not, literal_in-text, number_in-decimal, term-line, term_words, with_term-some}
use Rattle.opb_forms.proofs.WordLemmas.{word-line, words_of-last, words_of-term, words_of-word}

abbrev pub Words : Type 0
Words = List (List ℕ)

abbrev pub HasCoef : Term → Type 0
HasCoef t = 1 ≤ t.coef

-- ---- sums

-- the words of a sum
abbrev pub sum_words : List Term → Words
sum_words [] = codes "+0" ∷ codes "x1" ∷ []
sum_words (t ∷ terms) = flat_map term_words (t ∷ terms)

words_of-terms : (terms : List Term) (rest : List ℕ) → All IsSmallTerm terms
    → words_of (terms_text terms ++ rest) ≡ flat_map term_words terms ++ words_of rest
words_of-terms [] rest small = refl
words_of-terms (t ∷ terms) rest small =
    ap words_of (append_assoc (term_text t) (terms_text terms) rest)
    ∙ words_of-term t (terms_text terms ++ rest) (All-head IsSmallTerm t terms small)
    ∙ ap (λ (ws : Words). term_words t ++ ws) (words_of-terms terms rest (All-tail IsSmallTerm t terms small))

pub words_of-sum : (terms : List Term) (rest : List ℕ) → All IsSmallTerm terms
    → words_of (sum_text terms ++ rest) ≡ sum_words terms ++ words_of rest
words_of-sum [] rest small = refl
words_of-sum (t ∷ terms) rest small = words_of-terms (t ∷ terms) rest small

terms_in-words : (terms : List Term) → All IsSmallTerm terms → All HasCoef terms
    → terms_in (flat_map term_words terms) ≡ Some terms
terms_in-words [] small coefs = refl
terms_in-words (t ∷ terms) small coefs =
    let is : IsSmallTerm t = All-head IsSmallTerm t terms small in
    with_term-some (coef_in (codes "+" ++ decimal t.coef)) (literal_in (literal_text t.lit))
    (terms_in (flat_map term_words terms)) t terms (coef_in-text t.coef is.coef) (literal_in-text t.lit is.var)
    (terms_in-words terms (All-tail IsSmallTerm t terms small) (All-tail HasCoef t terms coefs))
    (All-head HasCoef t terms coefs)

pub sum_in-words : (terms : List Term) → All IsSmallTerm terms → All HasCoef terms → sum_in (sum_words terms) ≡ Some terms
sum_in-words [] small coefs = refl
sum_in-words (t ∷ terms) small coefs = terms_in-words (t ∷ terms) small coefs

-- no word of a sum is a mark
abbrev pub Apart : ℕ → List ℕ → Words → Type 0
Apart mark rest words = All (λ w. bytes_eq w (mark ∷ rest) ≡ false) words

apart-cons : (mark : ℕ) (rest word : List ℕ) (words : Words) → bytes_eq word (mark ∷ rest) ≡ false
    → Apart mark rest words → Apart mark rest (word ∷ words)
apart-cons mark rest word words is others = All-cons (λ (w : List ℕ). bytes_eq w (mark ∷ rest) ≡ false) word words is others

apart-none : (mark : ℕ) (rest : List ℕ) → Apart mark rest []
apart-none mark rest = All-nil (λ (w : List ℕ). bytes_eq w (mark ∷ rest) ≡ false)

terms-apart : (terms : List Term) (mark : ℕ) (rest : List ℕ) → 58 ≤ mark → mark ≤ 62
    → Apart mark rest (flat_map term_words terms)
terms-apart [] mark rest least most = apart-none mark rest
terms-apart (t ∷ terms) mark rest least most =
    apart-cons mark rest (codes "+" ++ decimal t.coef) (literal_text t.lit ∷ flat_map term_words terms)
    (coef-not t.coef mark rest least)
    (apart-cons mark rest (literal_text t.lit) (flat_map term_words terms) (literal-not t.lit mark rest most)
    (terms-apart terms mark rest least most))

pub sum-apart_degree : (terms : List Term) → Apart 62 (61 ∷ []) (sum_words terms)
sum-apart_degree [] =
    apart-cons 62 (61 ∷ []) (codes "+0") (codes "x1" ∷ []) refl
    (apart-cons 62 (61 ∷ []) (codes "x1") [] refl (apart-none 62 (61 ∷ [])))
sum-apart_degree (t ∷ terms) = terms-apart (t ∷ terms) 62 (61 ∷ []) (omega arith) (omega arith)

pub sum-apart_end : (terms : List Term) → Apart 59 [] (sum_words terms)
sum-apart_end [] =
    apart-cons 59 [] (codes "+0") (codes "x1" ∷ []) refl (apart-cons 59 [] (codes "x1") [] refl (apart-none 59 []))
sum-apart_end (t ∷ terms) = terms-apart (t ∷ terms) 59 [] (omega arith) (omega arith)

-- ---- the line of a row

-- without its LF
abbrev pub row_line : List Term → ℕ → List ℕ
row_line terms degree = sum_text terms ++ (codes ">= " ++ (decimal degree ++ codes " ;"))

row_words : (terms : List Term) (degree : ℕ) → All IsSmallTerm terms → degree < 2 ^ 64
    → words_of (row_line terms degree) ≡ sum_words terms ++ codes ">=" ∷ (decimal degree ∷ codes ";" ∷ [])
row_words terms degree small few =
    words_of-sum terms (codes ">= " ++ (decimal degree ++ codes " ;")) small
    ∙ ap (λ (ws : Words). sum_words terms ++ codes ">=" ∷ ws)
    (words_of-word (decimal degree) (codes ";") (decimal-word degree few))

abbrev is_degree_mark : List ℕ → Bool
is_degree_mark w = bytes_eq w (codes ">=")

row_parts : (terms : List Term) (degree : ℕ) → degree < 2 ^ 64
    → slice_split is_degree_mark (sum_words terms ++ codes ">=" ∷ (decimal degree ∷ codes ";" ∷ []))
    ≡ sum_words terms ∷ (decimal degree ∷ codes ";" ∷ []) ∷ []
row_parts terms degree few =
    slice_split_at is_degree_mark (sum_words terms) (codes ">=") (decimal degree ∷ codes ";" ∷ [])
    (sum-apart_degree terms) refl
    ∙ ap (λ (parts : List Words). sum_words terms ∷ parts)
    (slice_split_none is_degree_mark (decimal degree ∷ codes ";" ∷ [])
    (apart-cons 62 (61 ∷ []) (decimal degree) (codes ";" ∷ []) (decimal-not degree 62 (61 ∷ []) few (omega arith))
    (apart-cons 62 (61 ∷ []) (codes ";") [] refl (apart-none 62 (61 ∷ [])))))

with_degree-some : (o : Option (List Term)) (p : Option ℕ) (terms : List Term) (degree : ℕ) → o ≡ Some terms
    → p ≡ Some degree → with_degree o p ≡ Some (record { terms = terms; degree = degree })
with_degree-some o p terms degree first second = rw (first, second) refl

pub row_in-line : (terms : List Term) (degree : ℕ) → All IsSmallTerm terms → All HasCoef terms → degree < 2 ^ 64
    → row_in (row_line terms degree) ≡ Some (record { terms = terms; degree = degree })
row_in-line terms degree small coefs few =
    ap (λ (ws : Words). row_from (slice_split is_degree_mark ws)) (row_words terms degree small few)
    ∙ ap row_from (row_parts terms degree few)
    ∙ with_degree-some (sum_in (sum_words terms)) (number_in (decimal degree)) terms degree
    (sum_in-words terms small coefs) (number_in-decimal degree few)

-- ---- the line of what is to be least

abbrev pub least_line : List Term → List ℕ
least_line terms = codes "min: " ++ (sum_text terms ++ codes ";")

abbrev is_end_mark : List ℕ → Bool
is_end_mark w = bytes_eq w (codes ";")

least_words : (terms : List Term) → All IsSmallTerm terms
    → words_of (least_line terms) ≡ (codes "min:" ∷ sum_words terms) ++ codes ";" ∷ []
least_words terms small = ap (λ (ws : Words). codes "min:" ∷ ws) (words_of-sum terms (codes ";") small)

least_parts : (terms : List Term)
    → slice_split is_end_mark ((codes "min:" ∷ sum_words terms) ++ codes ";" ∷ [])
    ≡ (codes "min:" ∷ sum_words terms) ∷ [] ∷ []
least_parts terms =
    slice_split_at is_end_mark (codes "min:" ∷ sum_words terms) (codes ";") []
    (apart-cons 59 [] (codes "min:") (sum_words terms) refl (sum-apart_end terms)) refl

pub least_in-line : (terms : List Term) → All IsSmallTerm terms → All HasCoef terms
    → least_in (least_line terms) ≡ Some terms
least_in-line terms small coefs =
    ap (λ (ws : Words). least_from (slice_split is_end_mark ws)) (least_words terms small)
    ∙ ap least_from (least_parts terms)
    ∙ sum_in-words terms small coefs

-- ---- the first line

abbrev pub heading_line : ℕ → ℕ → List ℕ
heading_line vars count = codes "* #variable= " ++ (decimal vars ++ (codes " #constraint= " ++ decimal count))

heading_words : (vars count : ℕ) → vars < 2 ^ 64 → count < 2 ^ 64
    → words_of (heading_line vars count)
    ≡ codes "*" ∷ codes "#variable=" ∷ decimal vars ∷ codes "#constraint=" ∷ decimal count ∷ []
heading_words vars count vars_small count_small =
    ap (λ (ws : Words). codes "*" ∷ codes "#variable=" ∷ ws)
    (words_of-word (decimal vars) (codes "#constraint= " ++ decimal count) (decimal-word vars vars_small)
    ∙ ap (λ (ws : Words). decimal vars ∷ codes "#constraint=" ∷ ws)
    (words_of-last (decimal count) (decimal-word count count_small)))

both-some : (o p : Option ℕ) (vars count : ℕ) → o ≡ Some vars → p ≡ Some count → both o p ≡ Some (vars, count)
both-some o p vars count first second = rw (first, second) refl

pub heading_in-line : (vars count : ℕ) → vars < 2 ^ 64 → count < 2 ^ 64
    → heading_from (words_of (heading_line vars count)) ≡ Some (vars, count)
heading_in-line vars count vars_small count_small =
    ap heading_from (heading_words vars count vars_small count_small)
    ∙ both-some (number_in (decimal vars)) (number_in (decimal count)) vars count
    (number_in-decimal vars vars_small) (number_in-decimal count count_small)

-- ---- lines of a text

byte-inside : (b : ℕ) → 32 ≤ b → (b == 10) ≡ false
byte-inside b least = grind (arith, nat_tests)

pub lines_of-line : (line rest : List ℕ) → IsLine line → lines_of (line ++ 10 ∷ rest) ≡ line ∷ lines_of rest
lines_of-line line rest is =
    slice_split_at (λ b. b == 10) line 10 rest
    (All-weaker (λ (b : ℕ). 32 ≤ b) (λ (b : ℕ). (b == 10) ≡ false) byte-inside line is) refl

terms-line : (terms : List Term) (rest : List ℕ) → All IsSmallTerm terms → IsLine rest → IsLine (terms_text terms ++ rest)
terms-line [] rest small others = others
terms-line (t ∷ terms) rest small others =
    subst IsLine (sym (append_assoc (term_text t) (terms_text terms) rest))
    (term-line t (terms_text terms ++ rest) (All-head IsSmallTerm t terms small)
    (terms-line terms rest (All-tail IsSmallTerm t terms small) others))

sum-line : (terms : List Term) (rest : List ℕ) → All IsSmallTerm terms → IsLine rest → IsLine (sum_text terms ++ rest)
sum-line [] rest small others =
    All-append (λ (b : ℕ). 32 ≤ b) (codes "+0 x1 ") rest (by_test (codes "+0 x1 ") refl) others
sum-line (t ∷ terms) rest small others = terms-line (t ∷ terms) rest small others

number-line : (n : ℕ) (rest : List ℕ) → n < 2 ^ 64 → IsLine rest → IsLine (decimal n ++ rest)
number-line n rest small others =
    All-append (λ (b : ℕ). 32 ≤ b) (decimal n) rest (word-line (decimal n) (decimal-word n small)) others

text-line : (text rest : List ℕ) → IsLine text → IsLine rest → IsLine (text ++ rest)
text-line text rest first others = All-append (λ (b : ℕ). 32 ≤ b) text rest first others

pub row_line-line : (terms : List Term) (degree : ℕ) → All IsSmallTerm terms → degree < 2 ^ 64
    → IsLine (row_line terms degree)
row_line-line terms degree small few =
    sum-line terms (codes ">= " ++ (decimal degree ++ codes " ;")) small
    (text-line (codes ">= ") (decimal degree ++ codes " ;") (by_test (codes ">= ") refl)
    (number-line degree (codes " ;") few (by_test (codes " ;") refl)))

pub least_line-line : (terms : List Term) → All IsSmallTerm terms → IsLine (least_line terms)
least_line-line terms small =
    text-line (codes "min: ") (sum_text terms ++ codes ";") (by_test (codes "min: ") refl)
    (sum-line terms (codes ";") small (by_test (codes ";") refl))

pub heading_line-line : (vars count : ℕ) → vars < 2 ^ 64 → count < 2 ^ 64 → IsLine (heading_line vars count)
heading_line-line vars count vars_small count_small =
    text-line (codes "* #variable= ") (decimal vars ++ (codes " #constraint= " ++ decimal count))
    (by_test (codes "* #variable= ") refl)
    (number-line vars (codes " #constraint= " ++ decimal count) vars_small
    (text-line (codes " #constraint= ") (decimal count) (by_test (codes " #constraint= ") refl)
    (word-line (decimal count) (decimal-word count count_small))))

-- whether what is to be least stands in a line
pub row_line-begins : (terms : List Term) (degree : ℕ) → starts_with nat_eq (row_line terms degree) (codes "min:") ≡ false
row_line-begins [] degree = refl
row_line-begins (t ∷ terms) degree = refl
