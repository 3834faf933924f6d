-- A plain name has at most 40 characters, each of which may be printed.
use Rattle.std.proofs.Common.{◌≡◌, ℕ, zero, suc, ◌+◌, ◌<◌, ◌≤◌, Bool, true, false, cond, List, [], ◌∷◌, ◌++◌, map, length, get_or, take, Ok, Err, String, Global, string_bytes, refl, sym, ap, ◌∙◌, subst, arith, rules}
use Rattle.std.specs.Prelude.{Result, IfOk, nat_le, codes}
use Rattle.std.specs.List.{All}
use Rattle.std.specs.Cmp.Derive.{both_true}
use Rattle.std.specs.Char.{encode_utf8}
use Rattle.std.specs.Str.{IsUtf8, chars, encode_utf8_all}
use Rattle.std.specs.Str.Lossy.{utf8_lossy}
use Rattle.std.proofs.Math.Utf8.{scalar, scalars}
use Rattle.std.proofs.lemmas.Bool.Decides.{nat_tests}
use Rattle.std.proofs.lemmas.List.{append-nil, length-append, length-take, take_more}
use Rattle.std.proofs.lemmas.List.Elements.{All-append, All-take, All-map}
use Rattle.std.proofs.lemmas.Str.{chars-encodes, encodes-append, scalars-chars}
use Rattle.league.proofs.AscendingLemmas.{first_true, second_true}
use Rattle.robinx.specs.Bytes.{is_white}
use Rattle.robinx.specs.Fronts.{trimmed}
use Rattle.robinx.specs.Plain.{IsPlain, characters_of, expanded, is_unprinted, plain, printed, shortened}

-- ---- a character

-- a character, by whether it is white and whether it isn't printed
abbrev by_kind : Bool → Bool → ℕ → ℕ
by_kind white hidden c = cond white 32 (cond hidden 63 c)

scalar_by : (white hidden : Bool) (c : ℕ) → scalar c ≡ true → scalar (by_kind white hidden c) ≡ true
scalar_by true hidden c is = refl
scalar_by false true c is = refl
scalar_by false false c is = is

scalar-printed : (c : ℕ) → scalar c ≡ true → scalar (printed c) ≡ true
scalar-printed c is = scalar_by (is_white c) (is_unprinted c) c is

printable_by : (white hidden : Bool) (c : ℕ) → is_unprinted c ≡ hidden → is_unprinted (by_kind white hidden c) ≡ false
printable_by true hidden c is = refl
printable_by false true c is = refl
printable_by false false c is = is

printed_so : (c : ℕ) → is_unprinted (printed c) ≡ false
printed_so c = printable_by (is_white c) (is_unprinted c) c refl

-- ---- texts

scalars-map : (cs : List ℕ) → scalars cs ≡ true → scalars (map printed cs) ≡ true
scalars-map [] are = refl
scalars-map (c ∷ cs) are =
    both_true (scalar-printed c (first_true (scalar c) (scalars cs) are)) (scalars-map cs (second_true (scalar c) (scalars cs) are))

scalars-take : (n : ℕ) (cs : List ℕ) → scalars cs ≡ true → scalars (take n cs) ≡ true
scalars-take zero cs are = refl
scalars-take (suc n) [] are = refl
scalars-take (suc n) (c ∷ cs) are =
    both_true (first_true (scalar c) (scalars cs) are) (scalars-take n cs (second_true (scalar c) (scalars cs) are))

scalars-append : (cs ds : List ℕ) → scalars cs ≡ true → scalars ds ≡ true → scalars (cs ++ ds) ≡ true
scalars-append [] ds are also = also
scalars-append (c ∷ cs) ds are also =
    both_true (first_true (scalar c) (scalars cs) are) (scalars-append cs ds (second_true (scalar c) (scalars cs) are) also)

-- ---- a shortened text, by whether it was short

abbrev by_length : Bool → List ℕ → List ℕ
by_length short cs = cond short cs (take 37 cs ++ codes "...")

scalars_by : (short : Bool) (cs : List ℕ) → scalars cs ≡ true → scalars (by_length short cs) ≡ true
scalars_by true cs are = are
scalars_by false cs are = scalars-append (take 37 cs) (codes "...") (scalars-take 37 cs are) refl

few_by : (short : Bool) (cs : List ℕ) → nat_le (length cs) 40 ≡ short → length (by_length short cs) ≤ 40
few_by true cs is = grind (arith, nat_tests)
few_by false cs is =
    let joined = length-append (take 37 cs) (codes "...") in
    let front = length-take 37 cs in
    omega (arith, joined, front)

dots_printable : All (λ c. is_unprinted c ≡ false) (codes "...")
dots_printable = search rules

all_by : (short : Bool) (cs : List ℕ) → All (λ c. is_unprinted c ≡ false) cs → All (λ c. is_unprinted c ≡ false) (by_length short cs)
all_by true cs safe = safe
all_by false cs safe =
    All-append (λ c. is_unprinted c ≡ false) (take 37 cs) (codes "...") (All-take (λ c. is_unprinted c ≡ false) 37 cs safe) dots_printable

-- ---- a name

IsPlain-spelled : (cs : List ℕ) → scalars cs ≡ true → length cs ≤ 40 → All (λ c. is_unprinted c ≡ false) cs → IsPlain (encode_utf8_all cs)
IsPlain-spelled cs are few safe = record {
  few = subst (λ (xs : List ℕ). length xs ≤ 40) (sym (chars-encodes cs are)) few;
  printable = subst (λ (xs : List ℕ). All (λ c. is_unprinted c ≡ false) xs) (sym (chars-encodes cs are)) safe;
}

pub IsPlain-printed : (text : List ℕ) → IsUtf8 text → IsPlain (encode_utf8_all (shortened (map printed (chars text))))
IsPlain-printed text utf8 =
    let cs = map printed (chars text) in
    let short = nat_le (length cs) 40 in
    IsPlain-spelled (shortened cs)
    (scalars_by short cs (scalars-map (chars text) (scalars-chars text utf8)))
    (few_by short cs refl)
    (all_by short cs (All-map (λ c. is_unprinted c ≡ false) printed (chars text) (λ k d h. printed_so (get_or (chars text) k d))))

-- ---- as the code makes it

-- one more character
pub spelled_more : (cs : List ℕ) (i c d : ℕ) (old now : List ℕ) → i < length cs → c ≡ get_or cs i d → old ≡ encode_utf8_all (take i cs) → now ≡ old ++ encode_utf8 c → now ≡ encode_utf8_all (take (i + 1) cs)
spelled_more cs i c d old now h is so_far grown =
    let front = encode_utf8_all (take i cs) in
    let next = get_or cs i d in
    grown
    ∙ ap (λ x. x ++ encode_utf8 c) so_far
    ∙ ap (λ x. front ++ encode_utf8 x) is
    ∙ sym (ap encode_utf8_all (take_more cs i d h) ∙ encodes-append (take i cs) (next ∷ []) ∙ ap (λ x. front ++ x) (append-nil (encode_utf8 next)))

-- the characters of a value, step by step
pub characters_by : (value entities slice cut text str cs short last : List ℕ) → entities ≡ expanded value → slice ≡ entities → cut ≡ trimmed slice → text ≡ utf8_lossy cut → str ≡ text
    → cs ≡ map printed (chars str) → short ≡ shortened cs → last ≡ short → last ≡ characters_of value
characters_by value entities slice cut text str cs short last h1 h2 h3 h4 h5 h6 h7 h8 =
    h8 ∙ h7 ∙ ap shortened (h6 ∙ ap (λ s. map printed (chars s)) (h5 ∙ h4 ∙ ap utf8_lossy (h3 ∙ ap trimmed (h2 ∙ h1))))

module _ {E : Type 0} (result : Result (String Global) E) (cs : List ℕ) (spelled : IfOk result (λ t. string_bytes t ≡ encode_utf8_all cs)) where
  pub plain_if : (value : List ℕ) → cs ≡ characters_of value → IfOk result (λ t. string_bytes t ≡ plain value)
  unfolding plain
  plain_if value is = by_result result spelled where
    by_result : (r : Result (String Global) E) → IfOk r (λ t. string_bytes t ≡ encode_utf8_all cs) → IfOk r (λ t. string_bytes t ≡ plain value)
    by_result (Ok t) h = h ∙ ap encode_utf8_all is
    by_result (Err e) h = tt

  pub IsPlain_if : (text : List ℕ) → IsUtf8 text → cs ≡ shortened (map printed (chars text)) → IfOk result (λ t. IsPlain (string_bytes t))
  IsPlain_if text utf8 is = by_result result spelled where
    by_result : (r : Result (String Global) E) → IfOk r (λ t. string_bytes t ≡ encode_utf8_all cs) → IfOk r (λ t. IsPlain (string_bytes t))
    by_result (Ok t) h = subst IsPlain (sym (h ∙ ap encode_utf8_all is)) (IsPlain-printed text utf8)
    by_result (Err e) h = tt

-- no name
pub IsPlain-nil : IsPlain []
IsPlain-nil = IsPlain-spelled [] refl (omega arith) (λ k d h. absurd (omega arith))
