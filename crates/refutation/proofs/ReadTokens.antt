-- A line that is read is the line of its step.
use Rattle.std.proofs.Common.{◌≡◌, ℕ, ◌<◌, ◌≤◌, ◌^◌, ◌==◌, ◌&&◌, Bool, true, false, not, List, [], ◌∷◌, ◌++◌, map}
use Rattle.std.proofs.Common.{length, get_or, append_assoc, refl, arith, ap, sym, ◌∙◌, decimal}
use Rattle.std.specs.Prelude.{bytes_eq, codes, nat_eq, nat_le, nat_lt, Result, Ok}
use Rattle.std.specs.List.{flat_map, join_with_byte, list_all, onto_first, starts_with}
use Rattle.std.specs.Char.{is_ascii_digit}
use Rattle.std.proofs.lemmas.Bool.{eqb-true, le-leb, leb-true, ltb-true}
use Rattle.std.proofs.lemmas.Bool.Decides.{nat_tests}
use Rattle.std.proofs.lemmas.Fmt.{decimal-digits_value}
use Rattle.std.proofs.lemmas.List.Splits.{join_with_byte-slice_split, length-slice_split, slice_split-cons_no}
use Rattle.std.proofs.lemmas.List.Splits.{slice_split-cons_yes}
use Rattle.std.proofs.lemmas.Slice.Eq.{bytes_eq-Decides}
use Rattle.robin_io.proofs.NumberLemmas.{ascii_digits}
use Rattle.robin_io.specs.Numbers.{is_number}
use Rattle.rows.specs.Literals.{Literal}
use Rattle.refutation.specs.Steps.{Step, is_linear}
use Rattle.refutation.specs.Steps.Step.{Clause, Linear}
use Rattle.refutation.specs.Lines.{◌>>=◌, are_pairs, check, clause_step, groups_of, is_count, is_literal}
use Rattle.refutation.specs.Lines.{is_negated, is_small_number, is_small_variable, is_zero, linear_step, literal}
use Rattle.refutation.specs.Lines.{marked_step, number, paired, step_line, step_of, tokens_of, without_sign}
use Rattle.refutation.specs.Texts.{clause_text, linear_text, literal_text, literal_token, number_text, step_text}
use Rattle.refutation.specs.Writable.{CanSay}
use Rattle.refutation.specs.declared.fault.LogKind.{LogKind}
use Rattle.refutation.specs.declared.fault.LogKind.TheVariants.{BadLine, BadNumber}
use Rattle.refutation.specs.declared.step.Part.{Part}
use Rattle.refutation.specs.declared.version.Version.{Version}
use Rattle.refutation.specs.declared.version.Version.TheVariants.{One, Two}
use Rattle.refutation.proofs.StepLemmas.{both}
use Rattle.refutation.proofs.StepTexts.{flat_map-part_text, numbers_of}
use Rattle.refutation.proofs.TokenLemmas.{not_false, zero-is}

-- ---- one token

-- what doesn't begin with `0` has another first byte
first-apart : (ds : List ℕ) → starts_with nat_eq ds (codes "0") ≡ false → get_or ds 0 0 ≡ 48 → length ds ≡ 1
first-apart [] is first = absurd (omega arith)
first-apart (b ∷ ds) is first =
    let same : (48 == b) ≡ true = grind (arith, nat_tests) in
    let starts : starts_with nat_eq (b ∷ ds) (codes "0") ≡ true = rw same refl in
    cc

small-lt : (n : ℕ) → n ≤ 18446744073709551615 → n < 2 ^ 64
small-lt n most = omega arith

le-more : (n : ℕ) → n ≤ 2147483647 → n ≤ 18446744073709551615
le-more n most = omega arith

-- a number that is read is the text of its value
number-text : (token : List ℕ) → is_count token ≡ true → is_small_number token ≡ true → decimal (number token) ≡ token
number-text token is small =
    let parts = both (is_number token) (not (starts_with nat_eq token (codes "0"))) is in
    let digits = both (nat_lt 0 (length token)) (list_all is_ascii_digit token) parts.0 in
    decimal-digits_value ascii_digits token digits.1 (ltb-true 0 (length token) digits.0)
    (first-apart token (not_false (starts_with nat_eq token (codes "0")) parts.1))
    (small-lt (number token) (leb-true (number token) 18446744073709551615 small))

variable-fits : (ds : List ℕ) → nat_le (number ds) 2147483647 ≡ true → is_small_number ds ≡ true
variable-fits ds small = le-leb (number ds) 18446744073709551615
    (le-more (number ds) (leb-true (number ds) 2147483647 small))

-- a literal that is read is the text of its value, by its first byte
signed-text : (first : Bool) (b : ℕ) (ds : List ℕ) → (b == 45) ≡ first → is_literal (b ∷ ds) ≡ true
    → is_small_variable (b ∷ ds) ≡ true → literal_token (literal (b ∷ ds)) ≡ b ∷ ds
signed-text true b ds first is small =
    let at : b ≡ 45 = eqb-true b 45 first in
    let negated : is_negated (b ∷ ds) ≡ true = let same : (45 == b) ≡ true = grind (arith, nat_tests) in
    rw same refl in
    let plain : without_sign (b ∷ ds) ≡ ds = rw first refl in
    let count : is_count ds ≡ true = rw plain at is in
    let fits : is_small_number ds ≡ true = variable-fits ds (rw plain at small) in
    rw (negated, plain) (ap (λ (c : ℕ). c ∷ decimal (number ds)) (sym at)
    ∙ ap (λ (xs : List ℕ). b ∷ xs) (number-text ds count fits))
signed-text false b ds first is small =
    let negated : is_negated (b ∷ ds) ≡ false = let other : (45 == b) ≡ false = grind (arith, nat_tests) in
    rw other refl in
    let plain : without_sign (b ∷ ds) ≡ b ∷ ds = rw first refl in
    let count : is_count (b ∷ ds) ≡ true = rw plain at is in
    let fits : is_small_number (b ∷ ds) ≡ true = variable-fits (b ∷ ds) (rw plain at small) in
    rw (negated, plain) (number-text (b ∷ ds) count fits)

literal-text : (token : List ℕ) → is_literal token ≡ true → is_small_variable token ≡ true
    → literal_token (literal token) ≡ token
literal-text [] is small = cc
literal-text (b ∷ ds) is small = signed-text (b == 45) b ds refl is small

-- ---- tokens

-- tokens with a space behind each, and then others
join-map : {X : Type 0} (f : X → List ℕ) (xs : List X) (token : List ℕ) (tokens : List (List ℕ))
    → join_with_byte 32 (map f xs ++ token ∷ tokens)
    ≡ flat_map (λ x. f x ++ codes " ") xs ++ join_with_byte 32 (token ∷ tokens)
join-map {X} f [] token tokens = refl
join-map {X} f (x ∷ []) token tokens = simp append_assoc
join-map {X} f (x ∷ y ∷ xs) token tokens =
    ap (λ (text : List ℕ). f x ++ 32 ∷ text) (join-map f (y ∷ xs) token tokens)
    ∙ sym (simp append_assoc)

-- the groups with `0` between them
abbrev joined : List (List (List ℕ)) → List (List ℕ)
joined [] = []
joined (group ∷ []) = group
joined (group ∷ next ∷ groups) = group ++ codes "0" ∷ joined (next ∷ groups)

joined-nil : (groups : List (List (List ℕ))) → 0 < length groups → joined ([] ∷ groups) ≡ codes "0" ∷ joined groups
joined-nil [] some = absurd (omega arith)
joined-nil (group ∷ groups) some = refl

joined-onto : (token : List ℕ) (groups : List (List (List ℕ))) → 0 < length groups
    → joined (onto_first token groups) ≡ token ∷ joined groups
joined-onto token [] some = absurd (omega arith)
joined-onto token (group ∷ []) some = refl
joined-onto token (group ∷ next ∷ groups) some = refl

some_group : (tokens : List (List ℕ)) → 0 < length (groups_of tokens)
some_group tokens = omega (arith, length-slice_split is_zero tokens)

joined-by : (zero_token : Bool) (token : List ℕ) (tokens : List (List ℕ)) → is_zero token ≡ zero_token
    → joined (groups_of tokens) ≡ tokens → joined (groups_of (token ∷ tokens)) ≡ token ∷ tokens
joined-by true token tokens is same =
    ap joined (slice_split-cons_yes is_zero token tokens is) ∙ joined-nil (groups_of tokens) (some_group tokens)
    ∙ ap (λ (ts : List (List ℕ)). codes "0" ∷ ts) same ∙ ap (λ (t : List ℕ). t ∷ tokens) (sym (zero-is token is))
joined-by false token tokens is same =
    ap joined (slice_split-cons_no is_zero token tokens is) ∙ joined-onto token (groups_of tokens) (some_group tokens)
    ∙ ap (λ (ts : List (List ℕ)). token ∷ ts) same

joined-groups_of : (tokens : List (List ℕ)) → joined (groups_of tokens) ≡ tokens
joined-groups_of [] = refl
joined-groups_of (token ∷ tokens) = joined-by (is_zero token) token tokens refl (joined-groups_of tokens)

-- ---- steps

passed : {A : Type 0} (test : Bool) (kind : LogKind) (others : Result A LogKind) (x : A)
    → check test kind >>= (λ _. others) ≡ Ok x → (test ≡ true) × (others ≡ Ok x)
passed {A} true kind others x is = (refl, is)
passed {A} false kind others x is = cc

-- what a clause step's groups are
pub record AreClause (groups : List (List (List ℕ))) (step : Step) : Type 0 where
  pub clause : List (List ℕ)
  pub hints : List (List ℕ)
  pub are : groups ≡ clause ∷ hints ∷ [] ∷ []
  pub literals : list_all is_literal clause ≡ true
  pub counts : list_all is_count hints ≡ true
  pub variables : list_all is_small_variable clause ≡ true
  pub numbers : list_all is_small_number hints ≡ true
  pub is : step ≡ Clause (map literal clause) (map number hints)

clause-groups : (groups : List (List (List ℕ))) (step : Step) → clause_step groups ≡ Ok step → AreClause groups step
clause-groups [] step is = cc
clause-groups (a ∷ []) step is = cc
clause-groups (a ∷ b ∷ []) step is = cc
clause-groups (a ∷ b ∷ (x ∷ xs) ∷ cs) step is = cc
clause-groups (a ∷ b ∷ [] ∷ c ∷ cs) step is = cc
clause-groups (a ∷ b ∷ [] ∷ []) step is =
    let first = passed (list_all is_literal a && list_all is_count b) BadLine
    (check (list_all is_small_variable a && list_all is_small_number b) BadNumber >>=
    (λ _. Ok (Clause (map literal a) (map number b)))) step is in
    let second = passed (list_all is_small_variable a && list_all is_small_number b) BadNumber
    (Ok (Clause (map literal a) (map number b))) step first.1 in
    let written = both (list_all is_literal a) (list_all is_count b) first.0 in
    let small = both (list_all is_small_variable a) (list_all is_small_number b) second.0 in
    let same : step ≡ Clause (map literal a) (map number b) = cc in
    record {
      clause = a;
      hints = b;
      are = refl;
      literals = written.0;
      counts = written.1;
      variables =
          small.0;
      numbers = small.1;
      is = same;
    }

map-text : (ts : List (List ℕ)) → list_all is_count ts ≡ true → list_all is_small_number ts ≡ true
    → map decimal (map number ts) ≡ ts
map-text [] counts small = refl
map-text (t ∷ ts) counts small =
    let first = both (is_count t) (list_all is_count ts) counts in
    let second = both (is_small_number t) (list_all is_small_number ts) small in
    ap (λ (u : List ℕ). u ∷ map decimal (map number ts)) (number-text t first.0 second.0)
    ∙ ap (λ (us : List (List ℕ)). t ∷ us) (map-text ts first.1 second.1)

map-literal : (ts : List (List ℕ)) → list_all is_literal ts ≡ true → list_all is_small_variable ts ≡ true
    → map literal_token (map literal ts) ≡ ts
map-literal [] written small = refl
map-literal (t ∷ ts) written small =
    let first = both (is_literal t) (list_all is_literal ts) written in
    let second = both (is_small_variable t) (list_all is_small_variable ts) small in
    ap (λ (u : List ℕ). u ∷ map literal_token (map literal ts)) (literal-text t first.0 second.0)
    ∙ ap (λ (us : List (List ℕ)). t ∷ us) (map-literal ts first.1 second.1)

-- `0`, and then hints and another `0`
zero-joined : (hints : List ℕ) → join_with_byte 32 (codes "0" ∷ (map decimal hints ++ codes "0" ∷ []))
    ≡ codes "0 " ++ (flat_map number_text hints ++ codes "0")
zero-joined [] = refl
zero-joined (hint ∷ hints) = ap (λ (text : List ℕ). codes "0 " ++ text)
    (join-map decimal (hint ∷ hints) (codes "0") [])

clause-tokens : (tokens : List (List ℕ)) (step : Step) → clause_step (groups_of tokens) ≡ Ok step
    → (clause : List Literal) × (hints : List ℕ) × (step ≡ Clause clause hints) ×
    (join_with_byte 32 tokens ≡ clause_text clause hints)
clause-tokens tokens step is =
    let at : AreClause (groups_of tokens) step = clause-groups (groups_of tokens) step is in
    let lits : List Literal = map literal at.clause in
    let hints : List ℕ = map number at.hints in
    let tokens_are : tokens ≡ map literal_token lits ++ codes "0" ∷ (map decimal hints ++ codes "0" ∷ []) =
    sym (joined-groups_of tokens) ∙ ap joined at.are
    ∙ ap (λ (ts : List (List ℕ)). ts ++ codes "0" ∷ (at.hints ++ codes "0" ∷ []))
    (sym (map-literal at.clause at.literals at.variables))
    ∙ ap (λ (ts : List (List ℕ)). map literal_token lits ++ codes "0" ∷ (ts ++ codes "0" ∷ []))
    (sym (map-text at.hints at.counts at.numbers)) in (
      lits,
      hints,
      at.is,
      ap (join_with_byte 32) tokens_are
          ∙ join-map literal_token lits (codes "0") (map decimal hints ++ codes "0" ∷ [])
          ∙ ap (λ (text : List ℕ). flat_map literal_text lits ++ text) (zero-joined hints),
    )

-- what a linear step's groups are
pub record AreLinear (groups : List (List (List ℕ))) (step : Step) : Type 0 where
  pub parts : List (List ℕ)
  pub divisor : List ℕ
  pub are : groups ≡ parts ∷ (divisor ∷ []) ∷ []
  pub counts : list_all is_count parts ≡ true
  pub pairs : are_pairs parts ≡ true
  pub count : is_count divisor ≡ true
  pub numbers : list_all is_small_number parts ≡ true
  pub number_small : is_small_number divisor ≡ true
  pub is : step ≡ Linear (paired (map number parts)) (number divisor)

linear-groups : (groups : List (List (List ℕ))) (step : Step) → linear_step groups ≡ Ok step → AreLinear groups step
linear-groups [] step is = cc
linear-groups (a ∷ []) step is = cc
linear-groups (a ∷ [] ∷ gs) step is = cc
linear-groups (a ∷ (d ∷ e ∷ ds) ∷ gs) step is = cc
linear-groups (a ∷ (d ∷ []) ∷ g ∷ gs) step is = cc
linear-groups (a ∷ (d ∷ []) ∷ []) step is =
    let first = passed (list_all is_count a && (are_pairs a && is_count d)) BadLine
    (check (list_all is_small_number a && is_small_number d) BadNumber >>=
    (λ _. Ok (Linear (paired (map number a)) (number d)))) step is in
    let second = passed (list_all is_small_number a && is_small_number d) BadNumber
    (Ok (Linear (paired (map number a)) (number d))) step first.1 in
    let written = both (list_all is_count a) (are_pairs a && is_count d) first.0 in
    let others = both (are_pairs a) (is_count d) written.1 in
    let small = both (list_all is_small_number a) (is_small_number d) second.0 in
    let same : step ≡ Linear (paired (map number a)) (number d) = cc in
    record {
      parts = a;
      divisor = d;
      are = refl;
      counts = written.0;
      pairs = others.0;
      count = others.1;
      numbers =
          small.0;
      number_small = small.1;
      is = same;
    }

numbers_of-paired : (ts : List (List ℕ)) → are_pairs ts ≡ true → numbers_of (paired (map number ts)) ≡ map number ts
numbers_of-paired [] pairs = refl
numbers_of-paired (t ∷ []) pairs = cc
numbers_of-paired (t ∷ u ∷ ts) pairs = ap (λ (ns : List ℕ). number t ∷ number u ∷ ns) (numbers_of-paired ts pairs)

linear-tokens : (tokens : List (List ℕ)) (step : Step) → linear_step (groups_of tokens) ≡ Ok step
    → (parts : List Part) × (divisor : ℕ) × (step ≡ Linear parts divisor) ×
    (join_with_byte 32 tokens ≡ linear_text parts divisor)
linear-tokens tokens step is =
    let at : AreLinear (groups_of tokens) step = linear-groups (groups_of tokens) step is in
    let parts : List Part = paired (map number at.parts) in
    let divisor : ℕ = number at.divisor in
    let parts_are : at.parts ≡ map decimal (numbers_of parts) =
    sym (map-text at.parts at.counts at.numbers) ∙ ap (map decimal) (sym (numbers_of-paired at.parts at.pairs)) in
    let tokens_are : tokens ≡ map decimal (numbers_of parts) ++ codes "0" ∷ decimal divisor ∷ [] =
    sym (joined-groups_of tokens) ∙ ap joined at.are
    ∙ ap (λ (ts : List (List ℕ)). ts ++ codes "0" ∷ at.divisor ∷ []) parts_are
    ∙ ap (λ (t : List ℕ). map decimal (numbers_of parts) ++ codes "0" ∷ t ∷ [])
    (sym (number-text at.divisor at.count at.number_small)) in (
      parts,
      divisor,
      at.is,
      ap (join_with_byte 32) tokens_are
          ∙ join-map decimal (numbers_of parts) (codes "0") (decimal divisor ∷ [])
          ∙ ap (λ (text : List ℕ). text ++ (codes "0 " ++ decimal divisor)) (sym (flat_map-part_text parts)),
    )

-- what a mark and other tokens are
join-mark : (mark : ℕ) (tokens : List (List ℕ)) → 0 < length tokens
    → join_with_byte 32 ((mark ∷ []) ∷ tokens) ≡ mark ∷ 32 ∷ join_with_byte 32 tokens
join-mark mark [] some = absurd (omega arith)
join-mark mark (t ∷ ts) some = refl

-- without a token there is no step
some-clause : (tokens : List (List ℕ)) (step : Step) → clause_step (groups_of tokens) ≡ Ok step → 0 < length tokens
some-clause [] step is = cc
some-clause (t ∷ ts) step is = omega arith

some-linear : (tokens : List (List ℕ)) (step : Step) → linear_step (groups_of tokens) ≡ Ok step → 0 < length tokens
some-linear [] step is = cc
some-linear (t ∷ ts) step is = omega arith

marked-by : (c l : Bool) (mark : List ℕ) (tokens : List (List ℕ)) (step : Step) → bytes_eq mark (codes "c") ≡ c
    → bytes_eq mark (codes "l") ≡ l → marked_step (mark ∷ tokens) ≡ Ok step
    → join_with_byte 32 (mark ∷ tokens) ≡ step_text Two step
marked-by true l mark tokens step is_c is_l is =
    let here : clause_step (groups_of tokens) ≡ Ok step = rw is_c at is in
    let at = clause-tokens tokens step here in
    let first : mark ≡ codes "c" = (bytes_eq-Decides mark (codes "c")).0 is_c in
    ap (λ (m : List ℕ). join_with_byte 32 (m ∷ tokens)) first ∙ join-mark 99 tokens (some-clause tokens step here)
    ∙ ap (λ (text : List ℕ). codes "c " ++ text) at.3 ∙ ap (step_text Two) (sym at.2)
marked-by false true mark tokens step is_c is_l is =
    let here : linear_step (groups_of tokens) ≡ Ok step = rw (is_c, is_l) at is in
    let at = linear-tokens tokens step here in
    let first : mark ≡ codes "l" = (bytes_eq-Decides mark (codes "l")).0 is_l in
    ap (λ (m : List ℕ). join_with_byte 32 (m ∷ tokens)) first ∙ join-mark 108 tokens (some-linear tokens step here)
    ∙ ap (λ (text : List ℕ). codes "l " ++ text) at.3 ∙ ap (step_text Two) (sym at.2)
marked-by false false mark tokens step is_c is_l is = let here = rw (is_c, is_l) at is in cc

step-tokens : (version : Version) (tokens : List (List ℕ)) (step : Step) → step_of version tokens ≡ Ok step
    → join_with_byte 32 tokens ≡ step_text version step
step-tokens One tokens step is = let at = clause-tokens tokens step is in at.3 ∙ ap (step_text One) (sym at.2)
step-tokens Two [] step is = cc
step-tokens Two (mark ∷ tokens) step is = marked-by (bytes_eq mark (codes "c"))
    (bytes_eq mark (codes "l")) mark tokens step refl refl is

-- the line of a step that is read
pub step_line-text : (version : Version) (text : List ℕ) (step : Step) → step_line version text ≡ Ok step
    → text ≡ step_text version step
step_line-text version text step is = sym (join_with_byte-slice_split 32 text)
    ∙ step-tokens version (tokens_of text) step is

-- a text of its version can say a step that is read
pub step_line-says : (version : Version) (text : List ℕ) (step : Step) → step_line version text ≡ Ok step
    → CanSay version step
step_line-says One text step is = λ one. ap is_linear (clause-tokens (tokens_of text) step is).2
step_line-says Two text step is = λ one. cc
