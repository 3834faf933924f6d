-- The tokens that numbers and literals are written as, and what they are read as.
use Rattle.std.proofs.Common.{◌≡◌, ℕ, ◌+◌, ◌<◌, ◌≤◌, ◌^◌, ◌==◌, Bool, true, false, not, List, [], ◌∷◌, ◌++◌, get_or}
use Rattle.std.proofs.Common.{refl, arith, ap, ◌∙◌, decimal}
use Rattle.std.specs.Prelude.{codes, nat_eq, nat_le}
use Rattle.std.specs.List.{All, list_all, starts_with}
use Rattle.std.specs.Char.{is_ascii_digit}
use Rattle.std.proofs.lemmas.Bool.{le-leb}
use Rattle.std.proofs.lemmas.Bool.Decides.{nat_tests}
use Rattle.std.proofs.lemmas.Fmt.{first_decimal}
use Rattle.std.proofs.lemmas.List.Elements.{All-nil, All-cons, All-weaker}
use Rattle.robin_io.proofs.NumberLemmas.{is_number-decimal, reads-decimal}
use Rattle.rows.specs.Literals.{Literal}
use Rattle.refutation.specs.Lines.{is_count, is_literal, is_negated, is_small_number, is_small_variable, is_zero}
use Rattle.refutation.specs.Lines.{literal, number, without_sign}
use Rattle.refutation.specs.Texts.{literal_token, sign_text}
use Rattle.refutation.specs.Written.{IsVariable}
use Rattle.refutation.proofs.StepLemmas.{both}

-- bytes among which there are no space and no LF
abbrev pub IsToken : List ℕ → Type 0
IsToken token = All (λ b. 33 ≤ b) token

-- ---- digits

digit-least : (b : ℕ) → is_ascii_digit b ≡ true → 48 ≤ b
digit-least b is = grind (arith, nat_tests)

digits-least : (ds : List ℕ) → list_all is_ascii_digit ds ≡ true → All (λ b. 48 ≤ b) ds
digits-least [] is = All-nil (λ (b : ℕ). 48 ≤ b)
digits-least (b ∷ ds) is =
    let parts = both (is_ascii_digit b) (list_all is_ascii_digit ds) is in
    All-cons (λ (b : ℕ). 48 ≤ b) b ds (digit-least b parts.0) (digits-least ds parts.1)

-- what begins with a byte above `0` is neither `0` nor signed
begins-zero : (ds : List ℕ) → 48 < get_or ds 0 0 → starts_with nat_eq ds (codes "0") ≡ false
begins-zero [] above = absurd (omega arith)
begins-zero (b ∷ ds) above = let is : (48 == b) ≡ false = grind (arith, nat_tests) in rw is refl

begins-negated : (ds : List ℕ) → 48 < get_or ds 0 0 → is_negated ds ≡ false
begins-negated [] above = absurd (omega arith)
begins-negated (b ∷ ds) above = let is : (45 == b) ≡ false = grind (arith, nat_tests) in rw is refl

begins-unsigned : (ds : List ℕ) → 48 < get_or ds 0 0 → without_sign ds ≡ ds
begins-unsigned [] above = absurd (omega arith)
begins-unsigned (b ∷ ds) above = let is : (b == 45) ≡ false = grind (arith, nat_tests) in rw is refl

begins-not_zero : (ds : List ℕ) → 48 < get_or ds 0 0 → is_zero ds ≡ false
begins-not_zero [] above = absurd (omega arith)
begins-not_zero (b ∷ ds) above = let is : (b == 48) ≡ false = grind (arith, nat_tests) in rw is refl

-- ---- numbers

pub decimal-token : (n : ℕ) → n < 2 ^ 64 → IsToken (decimal n)
decimal-token n small =
    All-weaker (λ (b : ℕ). 48 ≤ b) (λ (b : ℕ). 33 ≤ b) (λ b least. omega arith) (decimal n)
    (digits-least (decimal n) (reads-decimal n (decimal n) small refl).1)

pub number-decimal : (n : ℕ) → n < 2 ^ 64 → number (decimal n) ≡ n
number-decimal n small = (reads-decimal n (decimal n) small refl).2

pub is_count-decimal : (n : ℕ) → 1 ≤ n → n < 2 ^ 64 → is_count (decimal n) ≡ true
is_count-decimal n some small =
    let first : 48 < get_or (decimal n) 0 0 = first_decimal n (omega arith) small in
    rw (is_number-decimal n small, begins-zero (decimal n) first) refl

pub is_zero-decimal : (n : ℕ) → 1 ≤ n → n < 2 ^ 64 → is_zero (decimal n) ≡ false
is_zero-decimal n some small = begins-not_zero (decimal n) (first_decimal n (omega arith) small)

small_test : (n limit : ℕ) → n < limit + 1 → nat_le n limit ≡ true
small_test n limit h = le-leb n limit (omega arith)

pub is_small_number-decimal : (n : ℕ) → n < 2 ^ 64 → is_small_number (decimal n) ≡ true
is_small_number-decimal n small =
    ap (λ (k : ℕ). nat_le k 18446744073709551615) (number-decimal n small) ∙ small_test n 18446744073709551615 small

-- ---- literals

variable-small : (v : ℕ) → v ≤ 2147483647 → v < 2 ^ 64
variable-small v most = omega arith

unsigned-token : (positive : Bool) (v : ℕ) → 1 ≤ v → v ≤ 2147483647
    → without_sign (sign_text positive ++ decimal v) ≡ decimal v
unsigned-token true v least most = begins-unsigned (decimal v) (first_decimal v (omega arith) (variable-small v most))
unsigned-token false v least most = refl

negated-token : (positive : Bool) (v : ℕ) → 1 ≤ v → v ≤ 2147483647
    → not (is_negated (sign_text positive ++ decimal v)) ≡ positive
negated-token true v least most = ap not (begins-negated (decimal v)
    (first_decimal v (omega arith) (variable-small v most)))
negated-token false v least most = refl

zero-token : (positive : Bool) (v : ℕ) → 1 ≤ v → v ≤ 2147483647 → is_zero (sign_text positive ++ decimal v) ≡ false
zero-token true v least most = is_zero-decimal v least (variable-small v most)
zero-token false v least most = refl

signed-token : (positive : Bool) (v : ℕ) → v ≤ 2147483647 → IsToken (sign_text positive ++ decimal v)
signed-token true v most = decimal-token v (variable-small v most)
signed-token false v most = All-cons (λ (b : ℕ). 33 ≤ b) 45 (decimal v) (omega arith)
    (decimal-token v (variable-small v most))

pub literal-token : (lit : Literal) → IsVariable lit → IsToken (literal_token lit)
literal-token lit is = signed-token lit.positive lit.var is.at_most

pub is_zero-literal_token : (lit : Literal) → IsVariable lit → is_zero (literal_token lit) ≡ false
is_zero-literal_token lit is = zero-token lit.positive lit.var is.at_least is.at_most

pub is_literal-literal_token : (lit : Literal) → IsVariable lit → is_literal (literal_token lit) ≡ true
is_literal-literal_token lit is =
    ap is_count (unsigned-token lit.positive lit.var is.at_least is.at_most)
    ∙ is_count-decimal lit.var is.at_least (variable-small lit.var is.at_most)

variable-read : (lit : Literal) → IsVariable lit → number (without_sign (literal_token lit)) ≡ lit.var
variable-read lit is =
    ap number (unsigned-token lit.positive lit.var is.at_least is.at_most)
    ∙ number-decimal lit.var (variable-small lit.var is.at_most)

pub is_small_variable-literal_token : (lit : Literal) → IsVariable lit → is_small_variable (literal_token lit) ≡ true
is_small_variable-literal_token lit is =
    ap (λ (k : ℕ). nat_le k 2147483647) (variable-read lit is) ∙ le-leb lit.var 2147483647 is.at_most

pub literal-literal_token : (lit : Literal) → IsVariable lit → literal (literal_token lit) ≡ lit
literal-literal_token lit is =
    ap (λ (v : ℕ). let read : Literal = record { var = v; positive = not (is_negated (literal_token lit)) } in
    read) (variable-read lit is)
    ∙ ap (λ (p : Bool). let read : Literal = record { var = lit.var; positive = p } in read)
    (negated-token lit.positive lit.var is.at_least is.at_most)
