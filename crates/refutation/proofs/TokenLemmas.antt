-- Tokens in bytes, and what their digits say.
use Rattle.std.proofs.Common.{◌≡◌, ◌≢◌, ℕ, ◌+◌, ◌-◌, ◌*◌, ◌%◌, ◌^◌, ◌<◌, ◌≤◌, Bool, true, false, not, ◌&&◌, nat_le}
use Rattle.std.proofs.Common.{nat_lt, nat_eq, List, [], ◌∷◌, ◌++◌, length, take, drop, get_or, Option, Some, None}
use Rattle.std.proofs.Common.{SomeIff, Result, Ok, Err, refl, sym, ap, subst, ◌∙◌, arith, inl, inr}
use Rattle.std.specs.Prelude.{codes}
use Rattle.std.specs.List.{list_all, starts_with, onto_first}
use Rattle.std.specs.Borrow.{Bor}
use Rattle.std.specs.Char.{is_ascii_digit}
use Rattle.std.specs.Int.{IsInRange}
use Rattle.std.specs.Str.Parse.{digits_value}
use Rattle.std.specs.Result.{result_ok, IfOk, IsErrOf}
use Rattle.std.specs.Bool.{IsTrue, IsFalse}
use Rattle.std.proofs.lemmas.Bool.{false≢true, cases_Bool}
use Rattle.std.proofs.lemmas.Bool.Decides.{nat_tests}
use Rattle.std.proofs.lemmas.List.{take-append-drop, append-nil, length-take}
use Rattle.std.proofs.lemmas.List.Folds.{list_all-append, list_all_more}
use Rattle.std.proofs.lemmas.List.Elements.{All-cons, All-nil}
use Rattle.std.proofs.lemmas.List.Splits.{slice_split-cons_no, slice_split-cons_yes}
use Rattle.std.proofs.lemmas.Int.Digits.{digits_value_more}
use Rattle.std.proofs.lemmas.Str.{digit_value_digit}
use Rattle.std.proofs.lemmas.Str.Parse.{digits_value_short, digits_value-take-le}
use Rattle.std.proofs.lemmas.Slice.Eq.{bytes_eq-Decides}
use Rattle.std.proofs.Math.Nat.{mod-eq_of_lt}
use Rattle.std.proofs.Math.Seq.{drop-cons}
use Rattle.std.proofs.lemmas.List.{length-drop}
use Rattle.robin_io.specs.Numbers.{is_number}
use Rattle.robin_io.specs.declared.numbers.NumberFault.{NumberFault}
use Rattle.robin_io.specs.declared.numbers.NumberFault.TheVariants as number_faults
use Rattle.robin_io.proofs.NumberLemmas.{ascii_digits}
use Rattle.rows.specs.Literals.{Literal}
use Rattle.refutation.specs.Lines.{is_count, is_literal, is_negated, is_small_number, is_small_variable, is_space}
use Rattle.refutation.specs.Lines.{is_zero, literal, number, tokens_of, without_sign}
use Rattle.refutation.specs.Cuts.{Lacks}
use Rattle.refutation.specs.Tokens.{AreDigits, EndsToken, FindsToken, IsUnsigned, IsWrong, Says, SaysCount}
use Rattle.refutation.specs.Tokens.{StandsFirst, StandsWrong, tokens_left}
use Rattle.refutation.specs.declared.fault.LogKind.{LogKind}
use Rattle.refutation.specs.declared.token.Item.{Item}
use Rattle.refutation.proofs.SplitLemmas.{split-last, split-part, split-more, split-parts}

-- ---- tests

pub both_true : (a b : Bool) → (a && b) ≡ true → (a ≡ true) × (b ≡ true)
both_true true b h = (refl, h)
both_true false b h = absurd (false≢true h)

pub and_false : (a : Bool) → (a && false) ≡ false
and_false true = refl
and_false false = refl

pub not_false : (b : Bool) → not b ≡ true → b ≡ false
not_false true h = absurd (false≢true h)
not_false false h = refl

pub fails : (b : Bool) → (b ≡ true → ⊥) → b ≡ false
fails true h = absurd (h refl)
fails false h = refl

-- ---- digits

digit-range : (b : ℕ) → is_ascii_digit b ≡ true → IsInRange 48 57 b
digit-range b h =
    let parts = both_true (nat_le 48 b) (nat_le b 57) h in
    (grind (arith, nat_tests), grind (arith, nat_tests))

-- one digit more
pub digits-more : (ds : List ℕ) (i : ℕ) → i < length ds → list_all is_ascii_digit (take i ds) ≡ true
    → is_ascii_digit (get_or ds i 0) ≡ true
    → list_all is_ascii_digit (take (i + 1) ds) ≡ true
digits-more ds i within so_far here = list_all_more is_ascii_digit ds i 0 within ∙ rw (so_far, here) refl

few-taken : (ds : List ℕ) (i : ℕ) → i < 19 → length (take (i + 1) ds) ≤ 19
few-taken ds i short = rw (length-take (i + 1) ds) (omega arith)

-- the value of one digit more, where there are at most 19 digits
pub value-more : (ds : List ℕ) (i v : ℕ) → i < length ds → i + 1 ≤ 19 → list_all is_ascii_digit (take i ds) ≡ true
    → is_ascii_digit (get_or ds i 0) ≡ true
    → v ≡ number (take i ds) → (v * 10 + (get_or ds i 0 - 48)) % 2 ^ 64 ≡ number (take (i + 1) ds)
value-more ds i v within short so_far here is =
    let more = digits_value_more 10 ds i within in
    let digit = digit_value_digit (get_or ds i 0) (digit-range (get_or ds i 0) here) in
    let fits : number (take (i + 1) ds) < 10 ^ 19 = digits_value_short ascii_digits (take (i + 1) ds) 19
    (digits-more ds i within so_far here) (few-taken ds i (omega arith)) in
    let same : v * 10 + (get_or ds i 0 - 48) ≡ number (take (i + 1) ds) = omega (arith, more, digit, is) in
    rw same (mod-eq_of_lt (omega (arith, fits)))

-- at most 19 digits fit 64 bits
pub short-fits : (ds : List ℕ) (i : ℕ) → i ≤ 19 → list_all is_ascii_digit (take i ds) ≡ true
    → number (take i ds) < 2 ^ 64
short-fits ds i short so_far =
    let few : length (take i ds) ≤ 19 = rw (length-take i ds) (omega arith) in
    let fits : number (take i ds) < 10 ^ 19 = digits_value_short ascii_digits (take i ds) 19 so_far few in
    omega (arith, fits)

-- the number that is read of many digits
pub long-value : (ds : List ℕ) (r : Result ℕ NumberFault) → list_all is_ascii_digit ds ≡ true → 0 < length ds
    → IfOk r (λ n. IsTrue (is_number ds) × (n ≡ digits_value 10 ds))
    → (IsErrOf r number_faults.Bad → IsFalse (is_number ds))
    → ((IsErrOf r number_faults.TooLarge → IsTrue (is_number ds) × (2 ^ 64 ≤ digits_value 10 ds)) ×
    (IsTrue (is_number ds) × (2 ^ 64 ≤ digits_value 10 ds) → IsErrOf r number_faults.TooLarge))
    → SomeIff (result_ok r) (number ds < 2 ^ 64) (number ds)
long-value ds (Ok n) digits some value bad large =
    let not_over : 2 ^ 64 ≤ digits_value 10 ds → ⊥ = λ over. let other = large.1 (value.0, over) in cc in
    (omega arith, value.1)
long-value ds (Err number_faults.Bad) digits some value bad large =
    let written : is_number ds ≡ true = grind (arith, nat_tests) in
    absurd (false≢true (sym (bad refl) ∙ written))
long-value ds (Err number_faults.TooLarge) digits some value bad large = λ fits. omega (arith, (large.0 refl).1)

-- a digit isn't a space
digit-space : (b : ℕ) → is_ascii_digit b ≡ true → is_space b ≡ false
digit-space b h = let range = digit-range b h in grind (arith, nat_tests)

pub digits-lack : (ds : List ℕ) → list_all is_ascii_digit ds ≡ true → Lacks is_space ds
digits-lack [] h = All-nil (λ b. is_space b ≡ false)
digits-lack (d ∷ ds) h =
    let parts = both_true (is_ascii_digit d) (list_all is_ascii_digit ds) h in
    All-cons (λ b. is_space b ≡ false) d ds (digit-space d parts.0) (digits-lack ds parts.1)

-- a token that isn't digits is wrong
pub zero-is : (token : List ℕ) → is_zero token ≡ true → token ≡ codes "0"
zero-is token h = (bytes_eq-Decides token (codes "0")).0 h

pub other-wrong : (token : List ℕ) → list_all is_ascii_digit token ≡ false → IsWrong is_count token
other-wrong token other = (
  fails (is_zero token) (λ zero. false≢true (sym other ∙ ap (list_all is_ascii_digit) (zero-is token zero))),
  rw (other, and_false (nat_lt 0 (length token))) refl,
)

-- a number without leading zeros is at least 1
pub count-positive : (ds : List ℕ) → is_count ds ≡ true → 1 ≤ number ds
count-positive [] h = absurd (false≢true h)
count-positive (d ∷ ds) h =
    let parts = both_true (is_number (d ∷ ds)) (not (starts_with nat_eq (d ∷ ds) (codes "0"))) h in
    let digits = both_true (nat_lt 0 (length (d ∷ ds))) (list_all is_ascii_digit (d ∷ ds)) parts.0 in
    let first = both_true (is_ascii_digit d) (list_all is_ascii_digit ds) digits.1 in
    let range = digit-range d first.0 in
    let digit = digit_value_digit d range in
    let other : d ≢ 48 = λ is. false≢true (sym (not_false _ parts.1) ∙ rw is refl) in
    let more : number (take (0 + 1) (d ∷ ds)) ≡ number (take 0 (d ∷ ds)) * 10 + _ =
    digits_value_more 10 (d ∷ ds) 0 (omega arith) in
    omega (arith, more, digit, digits_value-take-le 10 (d ∷ ds) 1 (omega arith))

-- ---- the token of digits in front

module _ (bytes : List ℕ) (len : ℕ) (digits : list_all is_ascii_digit (take len bytes) ≡ true) where
  cut : (behind : List ℕ) → behind ≡ drop len bytes → bytes ≡ take len bytes ++ behind
  cut behind is = sym (take-append-drop len bytes) ∙ ap (λ rest. take len bytes ++ rest) (sym is)

  pub token-ended : (left : Option (Bor (List ℕ))) (behind : List ℕ) → behind ≡ drop len bytes
      → EndsToken behind (Ok left) → tokens_of bytes ≡ take len bytes ∷ tokens_left left
  token-ended None behind is end =
      ap tokens_of (cut [] (sym end ∙ is) ∙ append-nil (take len bytes))
      ∙ split-last is_space (take len bytes) (digits-lack (take len bytes) digits)
  token-ended (Some left) behind is end =
      ap tokens_of (cut (32 ∷ left.now) (sym end ∙ is)) ∙ split-part is_space (take len bytes) 32 left.now
      (digits-lack (take len bytes) digits) refl

  other-end : (ds : List ℕ) (b : ℕ) (more : List ℕ) → is_ascii_digit b ≡ false
      → list_all is_ascii_digit ((ds ++ b ∷ []) ++ more) ≡ false
  other-end ds b more other =
      rw (
        list_all-append is_ascii_digit (ds ++ b ∷ []) more,
        list_all-append is_ascii_digit ds (b ∷ []),
        other,
        and_false (list_all is_ascii_digit ds),
      ) refl

  pub token-other : (b : ℕ) (rest : List ℕ) → b ∷ rest ≡ drop len bytes → is_space b ≡ false
      → is_ascii_digit b ≡ false → StandsWrong is_count bytes
  token-other b rest is space other =
      let parts = split-parts is_space rest in
      record {
        token = (take len bytes ++ b ∷ []) ++ parts.first;
        others = parts.others;
        tokens =
            ap tokens_of (cut (b ∷ rest) is) ∙ split-more is_space (take len bytes) b rest
            (digits-lack (take len bytes) digits) space
            ∙ rw parts.are refl;
        wrong = other-wrong ((take len bytes ++ b ∷ []) ++ parts.first)
            (other-end (take len bytes) b parts.first other);
      }

-- ---- what stands first

behind-at : (bytes rest : List ℕ) (len b : ℕ) → b ∷ rest ≡ drop len bytes
    → (len < length bytes) × (get_or bytes len 0 ≡ b)
behind-at bytes rest len b is =
    let within : len < length bytes = omega (arith, ap length is, length-drop len bytes) in
    let at = drop-cons bytes len 0 within in
    (within, cc)

pub first-other : (bytes rest : List ℕ) (len : ℕ) (found : Option ℕ) (kind : LogKind) → AreDigits bytes len found
    → rest ≡ drop len bytes → EndsToken rest (Err kind)
    → FindsToken is_count is_small_number number bytes (Err kind)
first-other bytes rest len found kind run is end =
    let at = behind-at bytes end.1.rest len end.1.byte (sym end.1.is ∙ is) in (
      end.0,
      token-other bytes len run.digits end.1.byte end.1.rest (sym end.1.is ∙ is) end.1.other
          (ap is_ascii_digit (sym at.1) ∙ run.longest at.0),
    )

pub first-wrong : (bytes rest digits : List ℕ) (len : ℕ) (found : Option ℕ) (left : Option (Bor (List ℕ)))
    (kind : LogKind) → AreDigits bytes len found → rest ≡ drop len bytes
    → digits ≡ take len bytes → EndsToken rest (Ok left) → SaysCount digits (Err kind)
    → FindsToken is_count is_small_number number bytes (Err kind)
first-wrong bytes rest digits len found left kind run is taken end wrong = (
  wrong.0,
  record {
    token = digits;
    others = tokens_left left;
    tokens = token-ended bytes len run.digits left rest is end ∙ ap (λ token. token ∷ tokens_left left) (sym taken);
    wrong = wrong.1;
  },
)

pub first-token : (bytes rest digits : List ℕ) (len : ℕ) (found : Option ℕ) (left : Option (Bor (List ℕ)))
    (read : Option (Item ℕ)) → AreDigits bytes len found → rest ≡ drop len bytes
    → digits ≡ take len bytes → EndsToken rest (Ok left) → SaysCount digits (Ok read)
    → StandsFirst is_count is_small_number number bytes read left
first-token bytes rest digits len found left read run is taken end says = record {
  token = digits;
  tokens = token-ended bytes len run.digits left rest is end ∙ ap (λ token. token ∷ tokens_left left) (sym taken);
  says = says;
}

-- ---- signs

unsigned-first-cons : (b : ℕ) (bytes : List ℕ) (space : Bool) (token : List ℕ) (others : List (List ℕ))
    → is_space b ≡ space → IsUnsigned (b ∷ bytes) → tokens_of (b ∷ bytes) ≡ token ∷ others → IsUnsigned token
unsigned-first-cons b bytes true token others space unsigned is =
    let first : [] ∷ tokens_of bytes ≡ token ∷ others = sym (slice_split-cons_yes is_space b bytes space) ∙ is in
    let same : [] ≡ token = cc in
    subst IsUnsigned same tt
unsigned-first-cons b bytes false token others space unsigned is =
    let parts = split-parts is_space bytes in
    let first : (b ∷ parts.first) ∷ parts.others ≡ token ∷ others = ap (onto_first b) (sym parts.are)
    ∙ sym (slice_split-cons_no is_space b bytes space) ∙ is in
    let same : b ∷ parts.first ≡ token = cc in
    subst IsUnsigned same unsigned

pub unsigned-first : (bytes : List ℕ) (token : List ℕ) (others : List (List ℕ)) → IsUnsigned bytes
    → tokens_of bytes ≡ token ∷ others → IsUnsigned token
unsigned-first [] token others unsigned is = let same : [] ≡ token = cc in subst IsUnsigned same tt
unsigned-first (b ∷ bytes) token others unsigned is = unsigned-first-cons b bytes (is_space b) token others refl
    unsigned is

unsigned-token : (token : List ℕ) → IsUnsigned token → (without_sign token ≡ token) × (is_negated token ≡ false)
unsigned-token [] unsigned = (refl, refl)
unsigned-token (b ∷ token) unsigned =
    (rw unsigned refl, let other : nat_eq 45 b ≡ false = grind (arith, nat_tests) in rw other refl)

-- what is small enough as a literal
small-literal : (token : List ℕ) (read : Item ℕ) (small : Bool) → read.small ≡ is_small_number token
    → (is_small_number token ≡ true → read.value ≡ number token)
    → small ≡ (read.small && nat_le read.value 2147483647) → small ≡ nat_le (number token) 2147483647
small-literal token read small is value given = elim (cases_Bool (is_small_number token)) [
  | inl fits ↦ given ∙ rw (is, fits, value fits) refl
  | inr over ↦ given ∙ rw (is, over) (let large : nat_le (number token) 2147483647 ≡ false =
      grind (arith, nat_tests) in sym large)
]

small-number : (token : List ℕ) → nat_le (number token) 2147483647 ≡ true → is_small_number token ≡ true
small-number token h = grind (arith, nat_tests)

module _ (token : List ℕ) (read : Item ℕ) (lit : Item Literal) (positive : Bool)
    (says : Says is_count is_small_number number (Some read) token)
    (small : lit.small ≡ (read.small && nat_le read.value 2147483647))
    (value : lit.small ≡ true → lit.value ≡ record { var = read.value; positive = positive }) where
  literal-small : lit.small ≡ nat_le (number token) 2147483647
  literal-small = small-literal token read lit.small says.2 says.3 small

  literal-value : nat_le (number token) 2147483647 ≡ true
      → lit.value ≡ record { var = number token; positive = positive }
  literal-value few = value (literal-small ∙ few)
      ∙ ap (λ v. let l : Literal = record { var = v; positive = positive } in l) (says.3 (small-number token few))

-- a number as a literal without a sign
pub says-unsigned : (token : List ℕ) (read : Item ℕ) (lit : Item Literal) → IsUnsigned token
    → Says is_count is_small_number number (Some read) token
    → lit.small ≡ (read.small && nat_le read.value 2147483647)
    → (lit.small ≡ true → lit.value ≡ record { var = read.value; positive = true })
    → Says is_literal is_small_variable literal (Some lit) token
says-unsigned token read lit unsigned says small value =
    let same = unsigned-token token unsigned in
    rw (same.0, same.1) (
      says.0,
      says.1,
      literal-small token read lit true says small value,
      literal-value token read
          lit true says small value,
    )

pub unsigned-item : (bytes : List ℕ) (read : Item ℕ) (lit : Item Literal) (left : Option (Bor (List ℕ)))
    → IsUnsigned bytes → StandsFirst is_count is_small_number number bytes (Some read) left
    → lit.small ≡ (read.small && nat_le read.value 2147483647)
    → (lit.small ≡ true → lit.value ≡ record { var = read.value; positive = true })
    → StandsFirst is_literal is_small_variable literal bytes (Some lit) left
unsigned-item bytes read lit left unsigned first small value = record {
  token = first.token;
  tokens = first.tokens;
  says = says-unsigned first.token read lit
      (unsigned-first bytes first.token (tokens_left left) unsigned first.tokens) first.says small value;
}

pub unsigned-zero : (bytes : List ℕ) (left : Option (Bor (List ℕ)))
    → StandsFirst is_count is_small_number number bytes None left
    → StandsFirst is_literal is_small_variable literal bytes None left
unsigned-zero bytes left first = record { token = first.token; tokens = first.tokens; says = first.says }

pub unsigned-wrong : (bytes : List ℕ) → IsUnsigned bytes → StandsWrong is_count bytes → StandsWrong is_literal bytes
unsigned-wrong bytes unsigned wrong =
    let same = unsigned-token wrong.token (unsigned-first bytes wrong.token wrong.others unsigned wrong.tokens) in
    record {
      token = wrong.token;
      others = wrong.others;
      tokens = wrong.tokens;
      wrong =
          (wrong.wrong.0, ap is_count same.0 ∙ wrong.wrong.1);
    }

-- a number as a literal with a sign
negated-tokens : (digits token : List ℕ) (others : List (List ℕ)) → tokens_of digits ≡ token ∷ others
    → tokens_of (45 ∷ digits) ≡ (45 ∷ token) ∷ others
negated-tokens digits token others is = slice_split-cons_no is_space 45 digits refl ∙ ap (onto_first 45) is

pub negated-item : (digits : List ℕ) (read : Item ℕ) (lit : Item Literal) (left : Option (Bor (List ℕ)))
    → StandsFirst is_count is_small_number number digits (Some read) left
    → lit.small ≡ (read.small && nat_le read.value 2147483647)
    → (lit.small ≡ true → lit.value ≡ record { var = read.value; positive = false })
    → StandsFirst is_literal is_small_variable literal (45 ∷ digits) (Some lit) left
negated-item digits read lit left first small value = record {
  token = 45 ∷ first.token;
  tokens = negated-tokens digits first.token (tokens_left left) first.tokens;
  says = (
    refl,
    first.says.1,
    literal-small first.token read lit false first.says small value,
    literal-value
        first.token read lit false first.says small value,
  );
}

pub negated-wrong : (digits : List ℕ) → StandsWrong is_count digits → StandsWrong is_literal (45 ∷ digits)
negated-wrong digits wrong = record {
  token = 45 ∷ wrong.token;
  others = wrong.others;
  tokens = negated-tokens digits wrong.token wrong.others wrong.tokens;
  wrong = (refl, wrong.wrong.1);
}

pub negated-zero : (digits : List ℕ) (left : Option (Bor (List ℕ)))
    → StandsFirst is_count is_small_number number digits None left → StandsWrong is_literal (45 ∷ digits)
negated-zero digits left first = record {
  token = 45 ∷ first.token;
  others = tokens_left left;
  tokens = negated-tokens digits first.token (tokens_left left) first.tokens;
  wrong = (refl, ap is_count (zero-is first.token first.says));
}

-- a number that was read is at least 1
pub item-positive : (bytes : List ℕ) (read : Item ℕ) (left : Option (Bor (List ℕ)))
    → StandsFirst is_count is_small_number number bytes (Some read) left
    → read.small ≡ true → 1 ≤ read.value
item-positive bytes read left first small = rw (first.says.3 (sym first.says.2 ∙ small))
    (count-positive first.token first.says.1)
