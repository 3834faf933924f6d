-- The table of what literals count.
use Rattle.std.proofs.Common.{◌≡◌, ℕ, zero, ◌+◌, ◌-◌, ◌*◌, ◌^◌, ◌<◌, ◌≤◌, ◌==◌, Bool, true, false, ◌&&◌, cond, List, [], ◌∷◌, ◌++◌, length, drop, get_or, replicate, take, max}
use Rattle.std.proofs.Common.{refl, inl, inr, arith, ap, sym, subst, ◌∙◌}
use Rattle.std.specs.Bool.{beq}
use Rattle.std.specs.List.{All, sum_by}
use Rattle.std.proofs.lemmas.Bool.{cases_lt, eq-eqb}
use Rattle.std.proofs.lemmas.List.{append-nil, drop_all, get_or_append_left, get_or-append_right, get_or_past, get_or-replicate, length-replicate, take_all}
use Rattle.std.proofs.lemmas.List.Elements.{All-cons, All-nil, All-weaker}
use Rattle.std.proofs.lemmas.List.Folds.{fold_stays}
use Rattle.std.proofs.lemmas.List.Sums.{sum_by-take-le, sum_by_more}
use Rattle.std.proofs.Math.Nat.{mul-le-mul_left}
use mathlib.Core.Path.{fun_ext}
use Rattle.rows.specs.Codes.{code_of}
use Rattle.rows.specs.Literals.{Literal}
use Rattle.rows.specs.Rows.{Row}
use Rattle.rows.specs.declared.lit.Term.{Term}
use Rattle.rows.specs.Sums.{Totals, count_in, is_same, no_totals, plus, top_of, weight_of, variables_to, widest}
use Rattle.rows.specs.Tables.{AreTouched, AreUpTo, IsCovered, IsKept, Table, count_at, totals_of}
use Rattle.rows.proofs.CountLemmas.{count_both, covered-most, covered-plus}

-- ---- numbers of literals

same_code : (v w : ℕ) (p q : Bool) → v * 2 + cond p 0 1 ≡ w * 2 + cond q 0 1 → (v == w && beq p q) ≡ true
same_code v w true true same = ap (λ (b : Bool). b && true) (eq-eqb v w (omega arith))
same_code v w true false same = absurd (omega arith)
same_code v w false true same = absurd (omega arith)
same_code v w false false same = ap (λ (b : Bool). b && true) (eq-eqb v w (omega arith))

code_by_sign : (v : ℕ) (p : Bool) (top : ℕ) → v ≤ top → v * 2 + cond p 0 1 ≤ 2 * top + 1
code_by_sign v true top within = omega arith
code_by_sign v false top within = omega arith

pub code_of-le : (l : Literal) (top : ℕ) → l.var ≤ top → code_of l ≤ 2 * top + 1
code_of-le l top within = code_by_sign l.var l.positive top within

-- ---- more places

count_past : (counts ys : List ℕ) → ((k : ℕ) → get_or ys k 0 ≡ 0) → (m : Literal) → count_at (counts ++ ys) m ≡ count_at counts m
count_past counts ys none m = elim (cases_lt (code_of m) (length counts)) [
  | inl there ↦ get_or_append_left counts ys 0 (code_of m) there
  | inr past ↦ get_or-append_right counts ys (length counts) (code_of m) 0 refl past ∙ none (code_of m - length counts) ∙ sym (get_or_past counts (code_of m) 0 past)
]

pub count_at-append : (counts ys : List ℕ) → ((k : ℕ) → get_or ys k 0 ≡ 0) → count_at (counts ++ ys) ≡ count_at counts
count_at-append counts ys none = fun_ext (count_past counts ys none)

-- ---- terms that are added one after the other

cond_times : (b : Bool) (factor c : ℕ) → cond b (factor * c) 0 ≡ factor * cond b c 0
cond_times true factor c = refl
cond_times false factor c = let none : 0 ≡ factor * 0 = omega arith in none

is_same-refl : (l : Literal) → is_same l l ≡ true
is_same-refl l = same_code l.var l.var l.positive l.positive refl

count_in-more : (terms : List Term) (i : ℕ) (t : Term) (m : Literal) → i < length terms → t ≡ get_or terms i t → count_in (take (i + 1) terms) m ≡ count_in (take i terms) m + cond (is_same t.lit m) t.coef 0
count_in-more terms i t m there is =
    sum_by_more (λ (u : Term). cond (is_same u.lit m) u.coef 0) terms i t there
    ∙ ap (λ (u : Term). count_in (take i terms) m + cond (is_same u.lit m) u.coef 0) (sym is)

pub count_step : (terms : List Term) (factor i : ℕ) (t : Term) (m : Literal) (start before after : ℕ) → i < length terms → t ≡ get_or terms i t → before ≡ start + factor * count_in (take i terms) m
    → after ≡ before + cond (is_same t.lit m) (factor * t.coef) 0 → after ≡ start + factor * count_in (take (i + 1) terms) m
count_step terms factor i t m start before after there is so_far step =
    omega (arith, so_far, step, cond_times (is_same t.lit m) factor t.coef, ap (λ (n : ℕ). factor * n) (count_in-more terms i t m there is))

-- what is added fits, where all of it does
pub fits_step : (terms : List Term) (factor i : ℕ) (t : Term) (start before : ℕ) → i < length terms → t ≡ get_or terms i t → before ≡ start + factor * count_in (take i terms) t.lit
    → start + factor * count_in terms t.lit < 2 ^ 128 → before + factor * t.coef < 2 ^ 128
fits_step terms factor i t start before there is so_far fits =
    let alone : cond (is_same t.lit t.lit) t.coef 0 ≡ t.coef = ap (λ (b : Bool). cond b t.coef 0) (is_same-refl t.lit) in
    let more : count_in (take (i + 1) terms) t.lit ≡ count_in (take i terms) t.lit + t.coef =
    count_in-more terms i t t.lit there is ∙ ap (λ (n : ℕ). count_in (take i terms) t.lit + n) alone in
    omega (
      arith,
      so_far,
      ap (λ (n : ℕ). factor * n) more,
      mul-le-mul_left factor (sum_by-take-le (λ (u : Term). cond (is_same u.lit t.lit) u.coef 0) terms (i + 1)),
    )

-- a table that reaches a variable has places for those up to it
pub places_all : (terms : List Term) (top places : ℕ) → 2 * top + 1 < places → All (λ t. t.lit.var ≤ top) terms → All (λ t. code_of t.lit < places) terms
places_all terms top places room known = All-weaker (λ t. t.lit.var ≤ top) (λ t. code_of t.lit < places) (λ t low. omega (arith, code_of-le t.lit top low)) terms known

-- no variable is above the greatest
pub top_of-all : (terms : List Term) → All (λ t. t.lit.var ≤ top_of terms) terms
top_of-all [] = All-nil (λ t. t.lit.var ≤ 0)
top_of-all (t ∷ terms) =
    All-cons (λ u. u.lit.var ≤ top_of (t ∷ terms)) t terms (omega arith)
    (All-weaker (λ u. u.lit.var ≤ top_of terms) (λ u. u.lit.var ≤ top_of (t ∷ terms)) (λ u low. omega arith) terms (top_of-all terms))

-- ---- a row more

abbrev build : ℕ → (Literal → ℕ) → ℕ → ℕ → Totals
build top count total degree = record { top = top; count = count; weight = total; degree = degree }

-- what a table is after a row was added
pub record IsAdded (before after : Table) (factor : ℕ) (row : Row) : Type 0 where
  pub top : after.top ≡ max before.top (top_of row.terms)
  pub counts : (m : Literal) → count_at after.counts m ≡ count_at before.counts m + factor * count_in row.terms m
  pub weight : after.weight ≡ before.weight + factor * weight_of row.terms
  pub degree : after.degree ≡ before.degree + factor * row.degree

pub totals_of-added : (before after : Table) (factor : ℕ) (row : Row) → IsAdded before after factor row → totals_of after ≡ plus (totals_of before) factor row
totals_of-added before after factor row is =
    ap (λ (top : ℕ). build top (count_at after.counts) after.weight after.degree) is.top
    ∙ ap (λ (count : Literal → ℕ). build (max before.top (top_of row.terms)) count after.weight after.degree) (fun_ext is.counts)
    ∙ ap (λ (total : ℕ). build (max before.top (top_of row.terms)) (λ m. count_at before.counts m + factor * count_in row.terms m) total after.degree) is.weight
    ∙ ap (λ (degree : ℕ). build (max before.top (top_of row.terms)) (λ m. count_at before.counts m + factor * count_in row.terms m) (before.weight + factor * weight_of row.terms) degree) is.degree

pub IsKept-added : (before after : Table) (noted next : List ℕ) (factor : ℕ) (row : Row) → IsKept before noted → IsAdded before after factor row
    → AreTouched (count_at after.counts) next → AreUpTo after.top next → after.top ≤ 2147483647 → after.weight ≤ widest → after.degree ≤ widest → IsKept after next
IsKept-added before after noted next factor row kept is touched up_to top total degree = record {
  covered = subst (λ (n : ℕ). IsCovered (count_at after.counts) n) (sym is.weight)
      (subst (λ (count : Literal → ℕ). IsCovered count (before.weight + factor * weight_of row.terms)) (sym (fun_ext is.counts))
      (covered-plus (count_at before.counts) before.weight factor row.terms kept.covered));
  touched_all = touched;
  up_to = up_to;
  top = top;
  weight = total;
  degree = degree;
}

-- a narrow sum counts what fits
pub fits_all : (before : Table) (noted : List ℕ) (factor : ℕ) (row : Row) → IsKept before noted → before.weight + factor * weight_of row.terms ≤ widest → (m : Literal) → count_at before.counts m + factor * count_in row.terms m < 2 ^ 128
fits_all before noted factor row kept narrow m =
    omega (
      arith,
      covered-most (λ l. count_at before.counts l + factor * count_in row.terms l) (before.weight + factor * weight_of row.terms)
          (covered-plus (count_at before.counts) before.weight factor row.terms kept.covered) m,
    )

-- nothing was added
pub totals_of-same : (before after : Table) → after.top ≡ before.top → count_at after.counts ≡ count_at before.counts → after.weight ≡ before.weight → after.degree ≡ before.degree → totals_of after ≡ totals_of before
totals_of-same before after top counts total degree =
    ap (λ (n : ℕ). build n (count_at after.counts) after.weight after.degree) top
    ∙ ap (λ (count : Literal → ℕ). build before.top count after.weight after.degree) counts
    ∙ ap (λ (n : ℕ). build before.top (count_at before.counts) n after.degree) total
    ∙ ap (λ (n : ℕ). build before.top (count_at before.counts) before.weight n) degree

pub IsKept-same : (before after : Table) (noted next : List ℕ) → IsKept before noted → after.top ≡ before.top → count_at after.counts ≡ count_at before.counts → after.weight ≡ before.weight → after.degree ≡ before.degree → next ≡ noted → IsKept after next
IsKept-same before after noted next kept top counts total degree same = record {
  covered = subst (λ (n : ℕ). IsCovered (count_at after.counts) n) (sym total) (subst (λ (count : Literal → ℕ). IsCovered count before.weight) (sym counts) kept.covered);
  touched_all = subst (λ (xs : List ℕ). AreTouched (count_at after.counts) xs) (sym same) (subst (λ (count : Literal → ℕ). AreTouched count noted) (sym counts) kept.touched_all);
  up_to = subst (λ (xs : List ℕ). AreUpTo after.top xs) (sym same) (subst (λ (n : ℕ). AreUpTo n noted) (sym top) kept.up_to);
  top = omega (arith, kept.top);
  weight = omega (arith, kept.weight);
  degree = omega (arith, kept.degree);
}

zeros : (n k : ℕ) → get_or (replicate n zero) k 0 ≡ 0
zeros n k = elim (cases_lt k n) [
  | inl there ↦ get_or-replicate n k zero 0 there
  | inr past ↦ get_or_past (replicate n zero) k 0 (omega (arith, length-replicate n zero))
]

-- a table with zeros behind
pub count_at-grown : (counts grown : List ℕ) (n k : ℕ) → length counts ≤ n → grown ≡ take n counts ++ replicate k zero → count_at grown ≡ count_at counts
count_at-grown counts grown n k order is =
    ap count_at (is ∙ ap (λ (xs : List ℕ). xs ++ replicate k zero) (take_all n counts order))
    ∙ count_at-append counts (replicate k zero) (zeros k)

-- ---- no row

pub IsKept-none : IsKept (record { top = 0; counts = []; weight = 0; degree = 0 }) []
IsKept-none = record {
  covered = λ top. (let none : sum_by (count_both (count_at [])) (variables_to top) ≡ 0 = fold_stays (λ (a v : ℕ). a + count_both (count_at []) v) 0 (λ v. refl) (variables_to top) in omega arith);
  touched_all = λ l some. absurd (some refl);
  up_to = All-nil (λ v. (1 ≤ v) × (v ≤ 0));
  top = omega arith;
  weight = omega arith;
  degree = omega arith;
}

pub IsKept-cleared : (after : Table) → after.top ≡ 0 → count_at after.counts ≡ (λ l. 0) → after.weight ≡ 0 → after.degree ≡ 0 → IsKept after []
IsKept-cleared after top counts total degree = IsKept-same (record { top = 0; counts = []; weight = 0; degree = 0 }) after [] [] IsKept-none top counts total degree refl

pub totals_of-cleared : (after : Table) → after.top ≡ 0 → count_at after.counts ≡ (λ l. 0) → after.weight ≡ 0 → after.degree ≡ 0 → totals_of after ≡ no_totals
totals_of-cleared after top counts total degree = totals_of-same (record { top = 0; counts = []; weight = 0; degree = 0 }) after top counts total degree

-- ---- a table that was lent as a slice

pub written_back : (old new : List ℕ) (len : ℕ) → length new ≡ length old → len ≡ length old → take len (new ++ drop (length new) old) ≡ new
written_back old new len same whole =
    ap (λ (xs : List ℕ). take len (new ++ xs)) (drop_all (length new) old (omega arith))
    ∙ ap (λ (xs : List ℕ). take len xs) (append-nil new)
    ∙ take_all len new (omega arith)
