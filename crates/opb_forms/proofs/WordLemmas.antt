-- Words of a text, and what they are read as.
use Rattle.std.proofs.Common.{◌≡◌, ℕ, ◌<◌, ◌≤◌, ◌^◌, ◌==◌, ◌&&◌, Bool, true, false, List, [], ◌∷◌, ◌++◌, append_assoc}
use Rattle.std.proofs.Common.{refl, arith, ap, sym, subst, ◌∙◌, decimal, Option, Some, None}
use Rattle.std.specs.Prelude.{codes, nat_eq, nat_le, bytes_eq, option_map, if◌then◌else◌}
use Rattle.std.specs.List.{All, list_all}
use Rattle.std.specs.Char.{is_ascii_digit}
use Rattle.std.specs.Str.Parse.{digits_value}
use Rattle.std.proofs.lemmas.Bool.Decides.{nat_tests}
use Rattle.std.proofs.lemmas.List.Elements.{All-nil, All-cons, All-append, All-weaker}
use Rattle.std.proofs.lemmas.List.Splits.{slice_split_at, slice_split_none}
use Rattle.robin_io.proofs.NumberLemmas.{is_number-decimal, reads-decimal}
use Rattle.rows.specs.Literals.{Literal, no, yes}
use Rattle.rows.specs.declared.lit.Term.{Term}
use Rattle.opb_forms.specs.Opb.{coef_in, literal_in, number_in, with_term, words_of}
use Rattle.opb_forms.specs.Texts.{literal_text, sign_text, term_text}
use Rattle.opb_forms.specs.Systems.{IsSmallTerm}

-- bytes among which there are no space and no LF
abbrev pub IsWord : List ℕ → Type 0
IsWord word = All (λ b. 33 ≤ b) word

-- ---- digits

both : (a b : Bool) → a && b ≡ true → (a ≡ true) × (b ≡ true)
both true b is = (refl, is)
both false b is = cc

digit-least : (b : ℕ) → is_ascii_digit b ≡ true → 33 ≤ b
digit-least b is = grind (arith, nat_tests)

digits-word : (ds : List ℕ) → list_all is_ascii_digit ds ≡ true → IsWord ds
digits-word [] is = All-nil (λ (b : ℕ). 33 ≤ b)
digits-word (b ∷ ds) is =
    let parts = both (is_ascii_digit b) (list_all is_ascii_digit ds) is in
    All-cons (λ (b : ℕ). 33 ≤ b) b ds (digit-least b parts.0) (digits-word ds parts.1)

pub decimal-word : (n : ℕ) → n < 2 ^ 64 → IsWord (decimal n)
decimal-word n small = digits-word (decimal n) (reads-decimal n (decimal n) small refl).1

begins-not : (b mark : ℕ) (word rest : List ℕ) → nat_eq b mark ≡ false → bytes_eq (b ∷ word) (mark ∷ rest) ≡ false
begins-not b mark word rest is = rw is refl

digit-not : (b mark : ℕ) → 58 ≤ mark → is_ascii_digit b ≡ true → nat_eq b mark ≡ false
digit-not b mark least is = grind (arith, nat_tests)

digits-not : (ds rest : List ℕ) (mark : ℕ) → 58 ≤ mark → list_all is_ascii_digit ds ≡ true
    → bytes_eq ds (mark ∷ rest) ≡ false
digits-not [] rest mark least is = refl
digits-not (b ∷ ds) rest mark least is =
    let parts = both (is_ascii_digit b) (list_all is_ascii_digit ds) is in
    begins-not b mark ds rest (digit-not b mark least parts.0)

-- a number is no word that begins with a byte behind the digits
pub decimal-not : (n mark : ℕ) (rest : List ℕ) → n < 2 ^ 64 → 58 ≤ mark → bytes_eq (decimal n) (mark ∷ rest) ≡ false
decimal-not n mark rest small least =
    digits-not (decimal n) rest mark least (reads-decimal n (decimal n) small refl).1

-- ---- numbers, coefficients and literals

pub number_in-decimal : (n : ℕ) → n < 2 ^ 64 → number_in (decimal n) ≡ Some n
number_in-decimal n small =
    ap (λ (b : Bool). if b then Some (digits_value 10 (decimal n)) else None) (is_number-decimal n small)
    ∙ ap Some (reads-decimal n (decimal n) small refl).2

pub coef_in-text : (n : ℕ) → n < 2 ^ 64 → coef_in (codes "+" ++ decimal n) ≡ Some n
coef_in-text n small = number_in-decimal n small

signed : (positive : Bool) (v : ℕ) → v < 2 ^ 64
    → literal_in (sign_text positive ++ (codes "x" ++ decimal v)) ≡ Some (record { var = v; positive = positive })
signed true v small = ap (option_map yes) (number_in-decimal v small)
signed false v small = ap (option_map no) (number_in-decimal v small)

pub literal_in-text : (l : Literal) → l.var < 2 ^ 64 → literal_in (literal_text l) ≡ Some l
literal_in-text l small = signed l.positive l.var small

-- ---- words

pub coef-word : (n : ℕ) → n < 2 ^ 64 → IsWord (codes "+" ++ decimal n)
coef-word n small = All-cons (λ (b : ℕ). 33 ≤ b) 43 (decimal n) (omega arith) (decimal-word n small)

variable-word : (v : ℕ) → v < 2 ^ 64 → IsWord (codes "x" ++ decimal v)
variable-word v small = All-cons (λ (b : ℕ). 33 ≤ b) 120 (decimal v) (omega arith) (decimal-word v small)

signed-word : (positive : Bool) (v : ℕ) → v < 2 ^ 64 → IsWord (sign_text positive ++ (codes "x" ++ decimal v))
signed-word true v small = variable-word v small
signed-word false v small =
    All-cons (λ (b : ℕ). 33 ≤ b) 126 (codes "x" ++ decimal v) (omega arith) (variable-word v small)

pub literal-word : (l : Literal) → l.var < 2 ^ 64 → IsWord (literal_text l)
literal-word l small = signed-word l.positive l.var small

signed-not : (positive : Bool) (v mark : ℕ) (rest : List ℕ) → mark ≤ 62
    → bytes_eq (sign_text positive ++ (codes "x" ++ decimal v)) (mark ∷ rest) ≡ false
signed-not true v mark rest most =
    let is : nat_eq 120 mark ≡ false = grind (arith, nat_tests) in begins-not 120 mark (decimal v) rest is
signed-not false v mark rest most =
    let is : nat_eq 126 mark ≡ false = grind (arith, nat_tests) in begins-not 126 mark (codes "x" ++ decimal v) rest is

pub literal-not : (l : Literal) (mark : ℕ) (rest : List ℕ) → mark ≤ 62 → bytes_eq (literal_text l) (mark ∷ rest) ≡ false
literal-not l mark rest most = signed-not l.positive l.var mark rest most

pub coef-not : (n mark : ℕ) (rest : List ℕ) → 58 ≤ mark → bytes_eq (codes "+" ++ decimal n) (mark ∷ rest) ≡ false
coef-not n mark rest least =
    let is : nat_eq 43 mark ≡ false = grind (arith, nat_tests) in begins-not 43 mark (decimal n) rest is

byte-apart : (b : ℕ) → 33 ≤ b → (b == 32) ≡ false
byte-apart b least = grind (arith, nat_tests)

-- a word up to a space
pub words_of-word : (word rest : List ℕ) → IsWord word → words_of (word ++ 32 ∷ rest) ≡ word ∷ words_of rest
words_of-word word rest is =
    slice_split_at (λ b. b == 32) word 32 rest
    (All-weaker (λ (b : ℕ). 33 ≤ b) (λ (b : ℕ). (b == 32) ≡ false) byte-apart word is) refl

-- the last word
pub words_of-last : (word : List ℕ) → IsWord word → words_of word ≡ word ∷ []
words_of-last word is =
    slice_split_none (λ b. b == 32) word
    (All-weaker (λ (b : ℕ). 33 ≤ b) (λ (b : ℕ). (b == 32) ≡ false) byte-apart word is)

-- ---- terms

regrouped : (coef lit rest : List ℕ)
    → (codes "+" ++ (coef ++ (codes " " ++ (lit ++ codes " ")))) ++ rest ≡ (codes "+" ++ coef) ++ 32 ∷ (lit ++ 32 ∷ rest)
regrouped coef lit rest = simp append_assoc

-- the words of a term
abbrev pub term_words : Term → List (List ℕ)
term_words t = (codes "+" ++ decimal t.coef) ∷ literal_text t.lit ∷ []

pub words_of-term : (t : Term) (rest : List ℕ) → IsSmallTerm t
    → words_of (term_text t ++ rest) ≡ term_words t ++ words_of rest
words_of-term t rest small =
    ap words_of (regrouped (decimal t.coef) (literal_text t.lit) rest)
    ∙ words_of-word (codes "+" ++ decimal t.coef) (literal_text t.lit ++ 32 ∷ rest) (coef-word t.coef small.coef)
    ∙ ap (λ (ws : List (List ℕ)). (codes "+" ++ decimal t.coef) ∷ ws)
    (words_of-word (literal_text t.lit) rest (literal-word t.lit small.var))

pub with_term-some : (o : Option ℕ) (p : Option Literal) (q : Option (List Term)) (t : Term) (terms : List Term)
    → o ≡ Some t.coef → p ≡ Some t.lit → q ≡ Some terms → 1 ≤ t.coef → with_term o p q ≡ Some (t ∷ terms)
with_term-some o p q t terms coef lit others least =
    let some : (t.coef == 0) ≡ false = grind (arith, nat_tests) in
    rw (coef, lit, others, some) refl

-- ---- lines

-- bytes among which there is no LF
abbrev pub IsLine : List ℕ → Type 0
IsLine line = All (λ b. 32 ≤ b) line

pub by_test : (line : List ℕ) → list_all (λ b. nat_le 32 b) line ≡ true → IsLine line
by_test [] is = All-nil (λ (b : ℕ). 32 ≤ b)
by_test (b ∷ line) is =
    let parts = both (nat_le 32 b) (list_all (λ b. nat_le 32 b) line) is in
    let least : 32 ≤ b = grind (arith, nat_tests, parts.0) in
    All-cons (λ (b : ℕ). 32 ≤ b) b line least (by_test line parts.1)

pub word-line : (word : List ℕ) → IsWord word → IsLine word
word-line word is = All-weaker (λ (b : ℕ). 33 ≤ b) (λ (b : ℕ). 32 ≤ b) (λ b least. omega arith) word is

pub space-line : (word rest : List ℕ) → IsWord word → IsLine rest → IsLine (word ++ 32 ∷ rest)
space-line word rest is others =
    All-append (λ (b : ℕ). 32 ≤ b) word (32 ∷ rest) (word-line word is)
    (All-cons (λ (b : ℕ). 32 ≤ b) 32 rest (omega arith) others)

pub term-line : (t : Term) (rest : List ℕ) → IsSmallTerm t → IsLine rest → IsLine (term_text t ++ rest)
term-line t rest small others =
    subst IsLine (sym (regrouped (decimal t.coef) (literal_text t.lit) rest))
    (space-line (codes "+" ++ decimal t.coef) (literal_text t.lit ++ 32 ∷ rest) (coef-word t.coef small.coef)
    (space-line (literal_text t.lit) rest (literal-word t.lit small.var) others))
