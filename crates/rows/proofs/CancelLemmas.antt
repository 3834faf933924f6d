-- A walk over the variables that count, in their order.
use Rattle.std.proofs.Common.{◌≡◌, ℕ, suc, ◌+◌, ◌-◌, ◌<◌, ◌≤◌, Bool, true, false, cond, List, [], ◌∷◌, ◌++◌, length, get_or, take, map, nat_lt}
use Rattle.std.proofs.Common.{refl, inl, inr, arith, ap, sym, subst, ◌∙◌}
use Rattle.std.specs.Int.{div_ceil}
use Rattle.std.specs.List.{All, flat_map, range_with_len}
use Rattle.std.specs.List.Sorted.{IsSorted}
use Rattle.std.specs.Ordering.{nat_cmp}
use Rattle.std.proofs.lemmas.Bool.{cases_eq, cases_lt, le-ltb, lt-ltb}
use Rattle.std.proofs.lemmas.List.{append-nil, get_or-take, get_or_read, length-take-le, map-append, take_all}
use Rattle.std.proofs.lemmas.List.Elements.{All-contains, All-get_or, All-more, All-nil, All-weaker}
use Rattle.std.proofs.lemmas.List.Sorted.{IsNonDecreasingBy-from_sort}
use Rattle.rows.specs.Literals.{Literal, yes, no}
use Rattle.rows.specs.declared.lit.Term.{Term}
use Rattle.rows.specs.Sums.{divided_term, left_over}
use Rattle.rows.specs.Tables.{AreCancelled, AreTouched, AreUpTo, common_at, left_at}
use Rattle.rows.proofs.CountLemmas.{list_to-more, list_to-same, sum_to-more, sum_to-same}

-- ---- where nothing counts

-- no literal of the variables from `low` on and before `high` counts
abbrev pub CountsNothing : (Literal → ℕ) → ℕ → ℕ → Type 0
CountsNothing count low high = (l : Literal) → low ≤ l.var → l.var < high → count l ≡ 0

left_at-nothing : (count : Literal → ℕ) (v : ℕ) → count (yes v) ≡ 0 → count (no v) ≡ 0 → left_at count v ≡ []
left_at-nothing count v a b = ap (λ (k : ℕ). left_over v k (count (no v))) a ∙ ap (λ (k : ℕ). left_over v 0 k) b

common_at-nothing : (count : Literal → ℕ) (v : ℕ) → count (yes v) ≡ 0 → common_at count v ≡ 0
common_at-nothing count v a = omega arith

pub cancelled-skip : (count : Literal → ℕ) (degree divisor : ℕ) (done : List Term) (left low high : ℕ) → low ≤ high → CountsNothing count low high
    → AreCancelled count degree divisor done left low → AreCancelled count degree divisor done left high
cancelled-skip count degree divisor done left low high order none is = record {
  terms = is.terms ∙ ap (λ (ts : List Term). map (divided_term divisor) ts)
      (sym (list_to-same (left_at count) low high order (λ v from to. left_at-nothing count v (none (yes v) from to) (none (no v) from to))));
  rest = is.rest ∙ ap (λ (n : ℕ). degree - n)
      (sym (sum_to-same (common_at count) low high order (λ v from to. common_at-nothing count v (none (yes v) from to))));
}

pub cancelled-one : (count : Literal → ℕ) (degree divisor : ℕ) (done next : List Term) (left rest v : ℕ) → AreCancelled count degree divisor done left v
    → next ≡ done ++ map (divided_term divisor) (left_at count v) → rest ≡ left - common_at count v → AreCancelled count degree divisor next rest (v + 1)
cancelled-one count degree divisor done next left rest v is more less =
    let one_more : suc v ≡ v + 1 = omega arith in
    subst (λ (n : ℕ). AreCancelled count degree divisor next rest n) one_more (record {
      terms = more
          ∙ ap (λ (ts : List Term). ts ++ map (divided_term divisor) (left_at count v)) is.terms
          ∙ sym (map-append (divided_term divisor) (flat_map (left_at count) (range_with_len 0 v)) (left_at count v))
          ∙ ap (λ (ts : List Term). map (divided_term divisor) ts) (sym (list_to-more (left_at count) v));
      rest = omega (arith, less, is.rest, sum_to-more (common_at count) v);
    })

-- ---- variables in order

before_or_past : (order : List ℕ) (low i v k x : ℕ) → IsSorted nat_cmp order → i < length order → v ≡ get_or order i v → All (λ w. w < low) (take i order)
    → k < length order → get_or order k x ≡ x → low ≤ x → x < v → ⊥
before_or_past order low i v k x sorted there is passed found at from to =
    elim (cases_lt k i) [
      | inl before ↦
          let small : get_or (take i order) k x < low = All-get_or (λ w. w < low) (take i order) k x (omega (arith, length-take-le i order (omega arith))) passed in
          omega (arith, small, get_or-take i order k x before, at)
      | inr past ↦ omega (arith, IsNonDecreasingBy-from_sort (λ (n : ℕ). n) order sorted i k x past found, at, get_or_read order i v there is x)
    ]

-- between what is done and the next variable nothing counts
pub nothing_before : (count : Literal → ℕ) (order : List ℕ) (low i v : ℕ) → AreTouched count order → IsSorted nat_cmp order → i < length order → v ≡ get_or order i v → All (λ w. w < low) (take i order)
    → CountsNothing count low v
nothing_before count order low i v touched sorted there is passed l from to =
    elim (cases_eq (count l) 0) [
      | inl none ↦ none
      | inr some ↦ let found = touched l some in absurd (before_or_past order low i v found.0 l.var sorted there is passed found.1 found.2 from to)
    ]

-- nothing counts behind the last variable
pub nothing_behind : (count : Literal → ℕ) (order : List ℕ) (low high : ℕ) → AreTouched count order → All (λ w. w < low) order → CountsNothing count low high
nothing_behind count order low high touched passed l from to =
    elim (cases_eq (count l) 0) [
      | inl none ↦ none
      | inr some ↦ let low_too : l.var < low = All-contains (λ w. w < low) order l.var passed (touched l some) in absurd (omega arith)
    ]

-- what a walk knows after some of the variables
pub record IsUnderWay (count : Literal → ℕ) (order : List ℕ) (degree divisor : ℕ) (done : List Term) (left next i : ℕ) : Type 0 where
  pub cancelled : AreCancelled count degree divisor done left next
  pub passed : All (λ v. v < next) (take i order)
  pub within : (top : ℕ) → AreUpTo top order → next ≤ top + 1

-- a variable that was passed, and one that wasn't
under_way-skip : (count : Literal → ℕ) (order : List ℕ) (degree divisor : ℕ) (done : List Term) (left next i v : ℕ) → i < length order → v ≡ get_or order i v → v < next
    → IsUnderWay count order degree divisor done left next i → IsUnderWay count order degree divisor done left next (i + 1)
under_way-skip count order degree divisor done left next i v there is low way = record {
  cancelled = way.cancelled;
  passed = All-more (λ w. w < next) order i v there way.passed (subst (λ (w : ℕ). w < next) is low);
  within = way.within;
}

under_way-one : (count : Literal → ℕ) (order : List ℕ) (degree divisor : ℕ) (done more : List Term) (left rest next i v : ℕ) → AreTouched count order → IsSorted nat_cmp order
    → i < length order → v ≡ get_or order i v → next ≤ v → more ≡ done ++ map (divided_term divisor) (left_at count v) → rest ≡ left - common_at count v
    → IsUnderWay count order degree divisor done left next i → IsUnderWay count order degree divisor more rest (v + 1) (i + 1)
under_way-one count order degree divisor done more left rest next i v touched sorted there is high grown less way = record {
  cancelled = cancelled-one count degree divisor done more left rest v
      (cancelled-skip count degree divisor done left next v high (nothing_before count order next i v touched sorted there is way.passed) way.cancelled) grown less;
  passed = All-more (λ w. w < v + 1) order i v there
      (All-weaker (λ w. w < next) (λ w. w < v + 1) (λ w low. omega arith) (take i order) way.passed)
      (subst (λ (w : ℕ). w < v + 1) is (let near : v < v + 1 = omega arith in near));
  within = λ top up_to. omega (arith, is, (All-get_or (λ w. (1 ≤ w) × (w ≤ top)) order i v there up_to).1);
}

-- a step of the walk
pub under_way-step : (count : Literal → ℕ) (order : List ℕ) (degree divisor : ℕ) (done more : List Term) (left rest next later i v : ℕ) → AreTouched count order → IsSorted nat_cmp order
    → i < length order → v ≡ get_or order i v → (v < next → (rest ≡ left) × (later ≡ next) × (more ≡ done))
    → (next ≤ v → (rest ≡ left - common_at count v) × (later ≡ v + 1) × (more ≡ done ++ map (divided_term divisor) (left_at count v)))
    → IsUnderWay count order degree divisor done left next i → IsUnderWay count order degree divisor more rest later (i + 1)
under_way-step count order degree divisor done more left rest next later i v touched sorted there is passed taken way =
    elim (cases_lt v next) [
      | inl low ↦
          let same = passed low in
          subst (λ (n : ℕ). IsUnderWay count order degree divisor more rest n (i + 1)) (sym same.1)
          (subst (λ (n : ℕ). IsUnderWay count order degree divisor more n next (i + 1)) (sym same.0)
          (subst (λ (ts : List Term). IsUnderWay count order degree divisor ts left next (i + 1)) (sym same.2)
          (under_way-skip count order degree divisor done left next i v there is low way)))
      | inr high ↦
          let new = taken high in
          subst (λ (n : ℕ). IsUnderWay count order degree divisor more rest n (i + 1)) (sym new.1)
          (under_way-one count order degree divisor done more left rest next i v touched sorted there is high new.2 new.0 way)
    ]

-- the start of the walk
pub under_way-start : (count : Literal → ℕ) (order : List ℕ) (degree divisor : ℕ) (done : List Term) → done ≡ [] → IsUnderWay count order degree divisor done degree 0 0
under_way-start count order degree divisor done none = record {
  cancelled = record { terms = none; rest = omega arith };
  passed = All-nil (λ v. v < 0);
  within = λ top up_to. omega arith;
}

pub under_way-end : (count : Literal → ℕ) (order : List ℕ) (degree divisor : ℕ) (done : List Term) (left next i top : ℕ) → AreTouched count order → length order ≤ i → AreUpTo top order
    → IsUnderWay count order degree divisor done left next i → AreCancelled count degree divisor done left (top + 1)
under_way-end count order degree divisor done left next i top touched all up_to way =
    cancelled-skip count degree divisor done left next (top + 1) (way.within top up_to)
    (nothing_behind count order next (top + 1) touched (subst (λ (xs : List ℕ). All (λ w. w < next) xs) (take_all i order all) way.passed)) way.cancelled

-- ---- the terms of one variable

last_term : (test : Bool) (v c divisor : ℕ) (start : List Term) → cond test (start ++ record { coef = div_ceil c divisor; lit = no v } ∷ []) start ≡ start ++ map (divided_term divisor) (cond test (record { coef = c; lit = no v } ∷ []) [])
last_term true v c divisor start = refl
last_term false v c divisor start = sym (append-nil start)

pub left_over-pushed : (v a b divisor : ℕ) (start mid end : List Term) → mid ≡ cond (nat_lt b a) (start ++ record { coef = div_ceil (a - b) divisor; lit = yes v } ∷ []) start
    → end ≡ cond (nat_lt a b) (mid ++ record { coef = div_ceil (b - a) divisor; lit = no v } ∷ []) mid → end ≡ start ++ map (divided_term divisor) (left_over v a b)
left_over-pushed v a b divisor start mid end first second =
    elim (cases_lt b a) [
      | inl above ↦
          let yes_too : nat_lt b a ≡ true = lt-ltb b a above in
          let not_no : nat_lt a b ≡ false = le-ltb a b (omega arith) in
          second
          ∙ ap (λ (t : Bool). cond t (mid ++ record { coef = div_ceil (b - a) divisor; lit = no v } ∷ []) mid) not_no
          ∙ first
          ∙ ap (λ (t : Bool). cond t (start ++ record { coef = div_ceil (a - b) divisor; lit = yes v } ∷ []) start) yes_too
          ∙ ap (λ (t : Bool). start ++ map (divided_term divisor) (cond t (record { coef = a - b; lit = yes v } ∷ []) (cond (nat_lt a b) (record { coef = b - a; lit = no v } ∷ []) []))) (sym yes_too)
      | inr low ↦
          let not_yes : nat_lt b a ≡ false = le-ltb b a low in
          let same_mid : mid ≡ start = first ∙ ap (λ (t : Bool). cond t (start ++ record { coef = div_ceil (a - b) divisor; lit = yes v } ∷ []) start) not_yes in
          second
          ∙ ap (λ (ts : List Term). cond (nat_lt a b) (ts ++ record { coef = div_ceil (b - a) divisor; lit = no v } ∷ []) ts) same_mid
          ∙ last_term (nat_lt a b) v (b - a) divisor start
          ∙ ap (λ (t : Bool). start ++ map (divided_term divisor) (cond t (record { coef = a - b; lit = yes v } ∷ []) (cond (nat_lt a b) (record { coef = b - a; lit = no v } ∷ []) []))) (sym not_yes)
    ]
