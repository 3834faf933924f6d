-- Steps that stand in front of bytes.
use Rattle.std.proofs.Common.{◌≡◌, ℕ, ◌+◌, ◌-◌, ◌*◌, ◌%◌, ◌^◌, ◌<◌, ◌≤◌, Bool, true, false, not, ◌&&◌, nat_eq}
use Rattle.std.proofs.Common.{List, [], ◌∷◌, ◌++◌, length, take, drop, get_or, Option, Some, None}
use Rattle.std.proofs.Common.{refl, arith, ap, sym, ◌∙◌, append_assoc, length-append, decimal}
use Rattle.std.specs.Prelude.{codes, IfSome, if◌then◌else◌, is_some}
use Rattle.std.specs.List.{flat_map, list_all, starts_with}
use Rattle.std.specs.Borrow.{Bor}
use Rattle.std.specs.Char.{is_ascii_digit}
use Rattle.std.proofs.lemmas.Bool.Decides.{nat_tests}
use Rattle.std.proofs.lemmas.Fmt.{decimal-digits_value}
use Rattle.std.proofs.lemmas.List.{append-nil, get_or-take, length-take, take-append-drop}
use Rattle.std.proofs.lemmas.List.Elements.{All-nil, All-push, All-weaker}
use Rattle.robin_io.proofs.NumberLemmas.{ascii_digits}
use Rattle.robin_io.specs.Numbers.{is_number}
use Rattle.rows.specs.Literals.{Literal}
use Rattle.refutation.specs.Steps.{Step}
use Rattle.refutation.specs.Steps.Step.{Clause, Linear}
use Rattle.refutation.specs.Lines.{is_count, number}
use Rattle.refutation.specs.Logs.{most_bytes}
use Rattle.refutation.specs.Texts.{clause_mark, literal_text, literal_token, number_text, part_text, step_line_text}
use Rattle.refutation.specs.Texts.{step_text}
use Rattle.refutation.specs.Written.{IsFactored, IsOf, IsSmall, IsVariable}
use Rattle.refutation.specs.Fronts.{AddsBoth, AddsParts, AreFewDigits, ArePartHints, BeginsNumber}
use Rattle.refutation.specs.Fronts.{IsHint, IsHintInFront, IsLiteralInFront, IsLonger, IsNumberBefore, IsPartInFront}
use Rattle.refutation.specs.Fronts.{IsVariableInFront, StandInFront, TakesItems, TakesStep}
use Rattle.refutation.specs.declared.step.Part.{Part}
use Rattle.refutation.specs.declared.version.Version.{Version}
use Rattle.refutation.specs.declared.version.Version.TheVariants.{One, Two}
use Rattle.refutation.proofs.TokenLemmas.{count-positive, digits-more, short-fits, value-more}

-- ---- one number

both-true : (a b : Bool) → a ≡ true → b ≡ true → (a && b) ≡ true
both-true true b is also = also
both-true false b is also = is

not-true : (b : Bool) → b ≡ false → not b ≡ true
not-true true is = sym is
not-true false is = refl

starts-other : (d : ℕ) (ds : List ℕ) → (d ≡ 48 → ⊥) → starts_with nat_eq (d ∷ ds) (codes "0") ≡ false
starts-other d ds other = let apart : nat_eq 48 d ≡ false = grind (arith, nat_tests) in rw apart refl

-- digits of which the first isn't `0`
digits-count : (ds : List ℕ) → list_all is_ascii_digit ds ≡ true → 0 < length ds → (get_or ds 0 0 ≡ 48 → ⊥)
    → is_count ds ≡ true
digits-count [] digits some other = absurd (omega arith)
digits-count (d ∷ ds) digits some other =
    let written : is_number (d ∷ ds) ≡ true = grind (arith, nat_tests) in
    both-true (is_number (d ∷ ds)) _ written (not-true _ (starts-other d ds other))

-- the first digit
pub first-digit : (bytes : List ℕ) → BeginsNumber bytes → is_ascii_digit (get_or bytes 0 0) ≡ true
first-digit bytes begins =
    let least = begins.least in let most = begins.most in grind (arith, nat_tests)

pub digits-first : (bytes : List ℕ) → BeginsNumber bytes → list_all is_ascii_digit (take 1 bytes) ≡ true
digits-first bytes begins = digits-more bytes 0 begins.some refl (first-digit bytes begins)

pub value-first : (bytes : List ℕ) (value : ℕ) → BeginsNumber bytes
    → value ≡ (0 * 10 + (get_or bytes 0 0 - 48)) % 2 ^ 64 → value ≡ number (take 1 bytes)
value-first bytes value begins is = is
    ∙ value-more bytes 0 0 begins.some (omega arith) refl (first-digit bytes begins) refl

module _ (bytes : List ℕ) (len hint : ℕ) (begins : BeginsNumber bytes) (run : AreFewDigits bytes len hint)
    (few : len ≤ 19) where
  few-taken : length (take len bytes) ≡ len
  few-taken = length-take len bytes ∙ (let w = run.within in omega arith)

  few-first : get_or (take len bytes) 0 0 ≡ 48 → ⊥
  few-first is =
      let same : get_or (take len bytes) 0 0 ≡ get_or bytes 0 0 = get_or-take len bytes 0 0 run.some in
      let least = begins.least in
      omega arith

  few-text : decimal hint ≡ take len bytes
  few-text = ap decimal (run.value_is few)
      ∙ decimal-digits_value ascii_digits (take len bytes) run.digits (omega (arith, few-taken, run.some))
      (λ first. absurd (few-first first))
      (short-fits bytes len few run.digits)

  few-hint : IsHint hint
  few-hint = rw (run.value_is few) (record {
    some = count-positive (take len bytes)
        (digits-count (take len bytes) run.digits (omega (arith, few-taken, run.some)) few-first);
    small = short-fits bytes len few run.digits;
  })

  pub number-front : (end : ℕ) (left : List ℕ) → drop len bytes ≡ end ∷ left → IsNumberBefore end bytes hint left
  number-front end left is = record {
    written =
        sym (take-append-drop len bytes) ∙ ap (λ (bs : List ℕ). take len bytes ++ bs) is
        ∙ ap (λ (bs : List ℕ). bs ++ end ∷ left) (sym few-text);
    is = few-hint;
  }

pub hint-front : (bytes : List ℕ) (found : Option (ℕ × Bor (List ℕ)))
    → IfSome found (λ r. IsNumberBefore 32 bytes r.0 r.1.now)
    → IfSome found (λ r. IsHintInFront bytes r.0 r.1.now)
hint-front bytes None is = is
hint-front bytes (Some (hint, left)) is = record {
  written = is.written ∙ sym (append_assoc (decimal hint) (codes " ") left.now);
  is = is.is;
}

-- ---- one part

pub part-front : (bytes mid left : List ℕ) (factor row : ℕ) → IsHintInFront bytes factor mid
    → IsHintInFront mid row left → IsPartInFront bytes (record { factor = factor; row = row }) left
part-front bytes mid left factor row first second = record {
  written =
      first.written ∙ ap (λ (bs : List ℕ). number_text factor ++ bs) second.written
      ∙ sym (append_assoc (number_text factor) (number_text row) left);
  are = record { factor = first.is; row = second.is };
}

-- ---- one literal

pub variable-front : (bytes left : List ℕ) (hint : ℕ) (positive : Bool) (lit : Literal)
    → IsHintInFront bytes hint left → hint ≤ 2147483647 → lit ≡ record { var = hint; positive = positive }
    → IsVariableInFront bytes positive lit left
variable-front bytes left hint positive lit found few is = rw is (record {
  written = found.written;
  sign = refl;
  is = record { at_least = found.is.some; at_most = few };
})

pub negated-front : (digits : List ℕ) (found : Option (Literal × Bor (List ℕ)))
    → IfSome found (λ r. IsVariableInFront digits false r.0 r.1.now)
    → IfSome found (λ r. IsLiteralInFront (45 ∷ digits) r.0 r.1.now)
negated-front digits None is = is
negated-front digits (Some (lit, left)) is = record {
  written = rw is.sign (ap (λ (bs : List ℕ). 45 ∷ bs) is.written);
  is = is.is;
}

pub positive-front : (bytes : List ℕ) (found : Option (Literal × Bor (List ℕ)))
    → IfSome found (λ r. IsVariableInFront bytes true r.0 r.1.now)
    → IfSome found (λ r. IsLiteralInFront bytes r.0 r.1.now)
positive-front bytes None is = is
positive-front bytes (Some (lit, left)) is = record { written = rw is.sign is.written; is = is.is }

-- ---- several

flat_map-push : {T : Type 0} (text : T → List ℕ) (xs : List T) (x : T) (left : List ℕ)
    → flat_map text xs ++ (text x ++ left) ≡ flat_map text (xs ++ x ∷ []) ++ left
flat_map-push {T} text [] x left = ap (λ (bs : List ℕ). bs ++ left) (sym (append-nil (text x)))
flat_map-push {T} text (y ∷ xs) x left =
    append_assoc (text y) (flat_map text xs) (text x ++ left)
    ∙ ap (λ (bs : List ℕ). text y ++ bs) (flat_map-push text xs x left)
    ∙ sym (append_assoc (text y) (flat_map text (xs ++ x ∷ [])) left)

module _ {T : Type 0} (text : T → List ℕ) (Is : T → Type 0) (bytes : List ℕ) (old : List T) where
  pub stand-start : StandInFront text Is bytes bytes old old
  stand-start = record { items = []; added = sym (append-nil old); written = refl; are = All-nil Is }

  pub stand-longer : (rest : List ℕ) (new : List T) → StandInFront text Is bytes rest old new → IsLonger old new
  stand-longer rest new so_far = record { more = so_far.items; is = so_far.added }

  pub stand-more : (rest left : List ℕ) (xs : List T) (x : T) → StandInFront text Is bytes rest old xs
      → rest ≡ text x ++ left → Is x → StandInFront text Is bytes left old (xs ++ x ∷ [])
  stand-more rest left xs x so_far is here = record {
    items = so_far.items ++ x ∷ [];
    added = ap (λ (ys : List T). ys ++ x ∷ []) so_far.added ∙ append_assoc old so_far.items (x ∷ []);
    written = so_far.written ∙ ap (λ (bs : List ℕ). flat_map text so_far.items ++ bs) is
        ∙ flat_map-push text so_far.items x left;
    are = All-push Is so_far.items x so_far.are here;
  }

  -- pushed or not
  pub stand-pushed : (rest : List ℕ) (xs new : List T) (x : T) (pushed : Bool) → StandInFront text Is bytes rest old xs
      → new ≡ (if pushed then xs ++ x ∷ [] else xs) → IsLonger old new
  stand-pushed rest xs new x true so_far is = record {
    more = so_far.items ++ x ∷ [];
    is = is ∙ ap (λ (ys : List T). ys ++ x ∷ []) so_far.added ∙ append_assoc old so_far.items (x ∷ []);
  }
  stand-pushed rest xs new x false so_far is = record { more = so_far.items; is = is ∙ so_far.added }

  pub stand-zero : (rest : List ℕ) (new : List T) (zero : Option (Bor (List ℕ)))
      → StandInFront text Is bytes rest old new → IfSome zero (λ left. rest ≡ 48 ∷ left.now)
      → TakesItems text Is bytes zero old new
  stand-zero rest new None so_far is = stand-longer rest new so_far
  stand-zero rest new (Some left) so_far is = record {
    items = so_far.items;
    added = so_far.added;
    written = so_far.written ∙ ap (λ (bs : List ℕ). flat_map text so_far.items ++ bs) is;
    are = so_far.are;
  }

pub hint-shorter : (bytes left : List ℕ) (hint : ℕ) → IsHintInFront bytes hint left → length left < length bytes
hint-shorter bytes left hint found =
    omega (
      arith,
      ap length found.written,
      length-append (number_text hint) left,
      length-append (decimal hint) (codes " "),
    )

pub literal-shorter : (bytes left : List ℕ) (lit : Literal) → IsLiteralInFront bytes lit left
    → length left < length bytes
literal-shorter bytes left lit found =
    omega (
      arith,
      ap length found.written,
      length-append (literal_text lit) left,
      length-append (literal_token lit) (codes " "),
    )

pub part-shorter : (bytes left : List ℕ) (part : Part) → IsPartInFront bytes part left → length left < length bytes
part-shorter bytes left part found =
    omega (
      arith,
      ap length found.written,
      length-append (part_text part) left,
      length-append (number_text part.factor) (number_text part.row),
      length-append (decimal part.row) (codes " "),
    )

-- ---- a line

-- clause steps may stand in each version
clause-of : (version : Version) (clause : List Literal) (hints : List ℕ) → IsOf version (Clause clause hints)
clause-of One clause hints = tt
clause-of Two clause hints = tt

line-regroup : (mark literals numbers left : List ℕ)
    → mark ++ (literals ++ (48 ∷ 32 ∷ (numbers ++ (48 ∷ 10 ∷ left))))
    ≡ ((mark ++ (literals ++ (codes "0 " ++ (numbers ++ codes "0")))) ++ codes "\n") ++ left
line-regroup mark literals numbers left = sym (simp append_assoc)

pub clause-front : (version : Version) (bytes text zero second end left : List ℕ) (lits lits' : List Literal)
    (rows rows' : List ℕ)
    → bytes ≡ clause_mark version ++ text
    → StandInFront literal_text IsVariable text (48 ∷ zero) lits lits' → zero ≡ 32 ∷ second
    → StandInFront number_text IsHint second (48 ∷ end) rows rows' → end ≡ 10 ∷ left
    → length bytes - length left ≤ most_bytes + 1
    → AddsBoth version bytes left lits lits' rows rows'
clause-front version bytes text zero second end left lits lits' rows rows' mark first space second_group lf short =
    let written : bytes ≡ step_line_text version (Clause first.items second_group.items) ++ left =
    mark ∙ ap (λ (bs : List ℕ). clause_mark version ++ bs) first.written
    ∙ ap (λ (bs : List ℕ). clause_mark version ++ (flat_map literal_text first.items ++ 48 ∷ bs)) space
    ∙ ap (λ (bs : List ℕ). clause_mark version ++ (flat_map literal_text first.items ++ 48 ∷ 32 ∷ bs))
    second_group.written
    ∙ ap (λ (bs : List ℕ). clause_mark version ++
    (flat_map literal_text first.items ++ 48 ∷ 32 ∷ (flat_map number_text second_group.items ++ 48 ∷ bs))) lf
    ∙ line-regroup (clause_mark version) (flat_map literal_text first.items)
    (flat_map number_text second_group.items) left in
    let step : List ℕ = step_text version (Clause first.items second_group.items) in
    record {
      clause = first.items;
      hints = second_group.items;
      literals = first.added;
      numbers = second_group.added;
      line = record {
        written = written;
        short = omega (
          arith,
          ap length written,
          length-append (step ++ codes "\n") left,
          length-append step (codes "\n"),
          short,
        );
        of = clause-of version first.items second_group.items;
        small = (first.are, All-weaker IsHint IsSmall (λ hint is. is.small) second_group.items second_group.are);
        rows = All-weaker IsHint (λ (hint : ℕ). 1 ≤ hint) (λ hint is. is.some) second_group.items second_group.are;
      };
    }

linear-regroup : (parts divisor left : List ℕ)
    → 108 ∷ 32 ∷ (parts ++ (48 ∷ 32 ∷ (divisor ++ 10 ∷ left)))
    ≡ ((codes "l " ++ (parts ++ (codes "0 " ++ divisor))) ++ codes "\n") ++ left
linear-regroup parts divisor left = sym (simp append_assoc)

factored : (part : Part) → ArePartHints part → IsFactored part
factored part are = record { factor = are.factor.some; small_factor = are.factor.small; small_row = are.row.small }

pub linear-front : (bytes text zero second left : List ℕ) (divisor : ℕ) (old new : List Part)
    → bytes ≡ 108 ∷ (32 ∷ text)
    → StandInFront part_text ArePartHints text (48 ∷ zero) old new → zero ≡ 32 ∷ second
    → IsNumberBefore 10 second divisor left → length bytes - length left ≤ most_bytes + 1
    → AddsParts bytes left divisor old new
linear-front bytes text zero second left divisor old new mark first space last short =
    let step : List ℕ = step_text Two (Linear first.items divisor) in
    let written : bytes ≡ step_line_text Two (Linear first.items divisor) ++ left =
    mark ∙ ap (λ (bs : List ℕ). 108 ∷ 32 ∷ bs) first.written
    ∙ ap (λ (bs : List ℕ). 108 ∷ 32 ∷ (flat_map part_text first.items ++ 48 ∷ bs)) space
    ∙ ap (λ (bs : List ℕ). 108 ∷ 32 ∷ (flat_map part_text first.items ++ 48 ∷ 32 ∷ bs)) last.written
    ∙ linear-regroup (flat_map part_text first.items) (decimal divisor) left in
    record {
      parts = first.items;
      added = first.added;
      line = record {
        written = written;
        short = omega (
          arith,
          ap length written,
          length-append (step ++ codes "\n") left,
          length-append step (codes "\n"),
          short,
        );
        of = tt;
        small = (All-weaker ArePartHints IsFactored factored first.items first.are, last.is.some, last.is.small);
        rows = All-weaker ArePartHints (λ (part : Part). 1 ≤ part.row) (λ part are. are.row.some) first.items
            first.are;
      };
      factors = All-weaker ArePartHints (λ (part : Part). 1 ≤ part.factor) (λ part are. are.factor.some) first.items
          first.are;
      least = last.is.some;
    }

-- ---- one kind, and then the other

pub none-taken : (version : Version) (bytes : List ℕ) (read : Option (Bor (List ℕ))) (old new : List Step)
    → is_some read ≡ false → TakesStep version bytes read old new → new ≡ old
none-taken version bytes None old new none takes = takes
none-taken version bytes (Some left) old new none takes = cc
