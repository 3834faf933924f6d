-- The row of a sum is wide: its coefficients are from 1, its variables ascend, and it is no wider than the sum.
use Rattle.std.proofs.Common.{◌≡◌, ℕ, zero, suc, ◌+◌, ◌-◌, ◌*◌, ◌<◌, ◌≤◌, cond, List, [], ◌∷◌, ◌++◌, length, get_or, map, nat_lt}
use Rattle.std.proofs.Common.{refl, inl, inr, arith, ap, sym, subst, zero-add}
use Rattle.std.specs.Int.{div_ceil}
use Rattle.std.specs.List.{All, AllPairs, flat_map, range_with_len, sum_by}
use Rattle.std.proofs.lemmas.Bool.{cases_eq, cases_lt, cond_both, ltb-true}
use Rattle.std.proofs.lemmas.Grind.{div_ceil_times}
use Rattle.std.proofs.lemmas.List.{append-nil, get_or-map, length-map}
use Rattle.std.proofs.lemmas.List.Elements.{All-get_or, All-map, All-nil, All-push, All-weaker}
use Rattle.std.proofs.lemmas.List.Quantifiers.{all_pairs_push}
use Rattle.std.proofs.lemmas.List.Sums.{sum_by-append, sum_by-cons}
use Rattle.std.proofs.lemmas.Nat.{mul-le}
use Rattle.rows.specs.Literals.{Literal, yes, no}
use Rattle.rows.specs.declared.lit.Term.{Term}
use Rattle.rows.specs.Sums.{IsWide, Totals, cancelled, divided, divided_term, left_over, weight_of, widest}
use Rattle.rows.specs.Tables.{IsCovered}
use Rattle.rows.proofs.CountLemmas.{count_both, list_to-more, sum_to-more}

-- ---- dividing, rounding up

pub div_ceil-le : (a d : ℕ) → 1 ≤ d → div_ceil a d ≤ a
div_ceil-le a d positive =
    elim (cases_lt a (div_ceil a d)) [
      | inl above ↦ absurd (omega (arith, mul-le (a + 1) d (div_ceil a d) d (omega arith) (omega arith), mul-le a 1 a d (omega arith) positive, (div_ceil_times a d (omega arith)).1))
      | inr within ↦ within
    ]

pub div_ceil-pos : (a d : ℕ) → 1 ≤ a → 1 ≤ d → 1 ≤ div_ceil a d
div_ceil-pos a d some positive =
    elim (cases_eq (div_ceil a d) 0) [
      | inl none ↦ absurd (omega (arith, (div_ceil_times a d (omega arith)).0, ap (λ (k : ℕ). k * d) none))
      | inr other ↦ omega arith
    ]

-- ---- what is left of a variable

-- nothing, or one term of it
pub left_over-cases : (P : List Term → Type 0) (v a b : ℕ) → P [] → ((t : Term) → t.lit.var ≡ v → 1 ≤ t.coef → P (t ∷ [])) → P (left_over v a b)
left_over-cases P v a b none one =
    cond_both (nat_lt b a) (record { coef = a - b; lit = yes v } ∷ []) (cond (nat_lt a b) (record { coef = b - a; lit = no v } ∷ []) []) P
    (λ above. one (record { coef = a - b; lit = yes v }) refl (omega (arith, ltb-true b a above)))
    (λ other. cond_both (nat_lt a b) (record { coef = b - a; lit = no v } ∷ []) [] P
    (λ below. one (record { coef = b - a; lit = no v }) refl (omega (arith, ltb-true a b below)))
    (λ same. none))

-- coefficients from 1, variables that ascend up to a number
pub record IsOrdered (terms : List Term) (n : ℕ) : Type 0 where
  pub coefs : All (λ t. 1 ≤ t.coef) terms
  pub ascending : AllPairs (λ t u. t.lit.var < u.lit.var) terms
  pub below : All (λ t. t.lit.var < n) terms

ordered-more : (terms : List Term) (n a b : ℕ) → IsOrdered terms n → IsOrdered (terms ++ left_over n a b) (suc n)
ordered-more terms n a b is =
    left_over-cases (λ (more : List Term). IsOrdered (terms ++ more) (suc n)) n a b
    (subst (λ (ts : List Term). IsOrdered ts (suc n)) (sym (append-nil terms)) (record {
      coefs = is.coefs;
      ascending = is.ascending;
      below = All-weaker (λ t. t.lit.var < n) (λ t. t.lit.var < suc n) (λ t low. omega arith) terms is.below;
    }))
    (λ t at some. record {
      coefs = All-push (λ u. 1 ≤ u.coef) terms t is.coefs some;
      ascending = all_pairs_push (λ u w. u.lit.var < w.lit.var) terms t is.ascending
          (λ k d there. omega (arith, at, All-get_or (λ u. u.lit.var < n) terms k d there is.below));
      below = All-push (λ u. u.lit.var < suc n) terms t
          (All-weaker (λ u. u.lit.var < n) (λ u. u.lit.var < suc n) (λ u low. omega arith) terms is.below) (omega (arith, at));
    })

ordered-to : (count : Literal → ℕ) (n : ℕ) → IsOrdered (flat_map (λ v. left_over v (count (yes v)) (count (no v))) (range_with_len 0 n)) n
ordered-to count zero = record {
  coefs = All-nil (λ t. 1 ≤ t.coef);
  ascending = λ i j d order there. absurd (omega arith);
  below = All-nil (λ t. t.lit.var < zero);
}
ordered-to count (suc n) =
    subst (λ (ts : List Term). IsOrdered ts (suc n)) (sym (list_to-more (λ v. left_over v (count (yes v)) (count (no v))) n))
    (ordered-more (flat_map (λ v. left_over v (count (yes v)) (count (no v))) (range_with_len 0 n)) n (count (yes n)) (count (no n)) (ordered-to count n))

-- ---- dividing keeps it

divided-coefs : (divisor : ℕ) (terms : List Term) → 1 ≤ divisor → All (λ t. 1 ≤ t.coef) terms → All (λ t. 1 ≤ t.coef) (map (divided_term divisor) terms)
divided-coefs divisor terms positive coefs =
    All-map (λ t. 1 ≤ t.coef) (divided_term divisor) terms
    (All-weaker (λ t. 1 ≤ t.coef) (λ t. 1 ≤ (divided_term divisor t).coef) (λ t some. div_ceil-pos t.coef divisor some positive) terms coefs)

divided-ascending : (divisor : ℕ) (terms : List Term) → AllPairs (λ t u. t.lit.var < u.lit.var) terms → AllPairs (λ t u. t.lit.var < u.lit.var) (map (divided_term divisor) terms)
divided-ascending divisor terms ascending i j d order there =
    let within : j < length terms = omega (arith, length-map terms (divided_term divisor)) in
    let first : (get_or (map (divided_term divisor) terms) i d).lit.var ≡ (get_or terms i d).lit.var =
    ap (λ (t : Term). t.lit.var) (get_or-map (divided_term divisor) terms i d d (omega arith)) in
    let second : (get_or (map (divided_term divisor) terms) j d).lit.var ≡ (get_or terms j d).lit.var =
    ap (λ (t : Term). t.lit.var) (get_or-map (divided_term divisor) terms j d d within) in
    omega (arith, first, second, ascending i j d order within)

weight_of-divided : (divisor : ℕ) (terms : List Term) → 1 ≤ divisor → weight_of (map (divided_term divisor) terms) ≤ weight_of terms
weight_of-divided divisor [] positive = omega arith
weight_of-divided divisor (t ∷ terms) positive =
    omega (
      arith,
      sum_by-cons (λ (u : Term). u.coef) t terms,
      sum_by-cons (λ (u : Term). u.coef) (divided_term divisor t) (map (divided_term divisor) terms),
      div_ceil-le t.coef divisor positive,
      weight_of-divided divisor terms positive,
    )

-- ---- what is left is no more than was counted

weight_of-left_over : (v a b : ℕ) → weight_of (left_over v a b) ≤ a + b
weight_of-left_over v a b =
    cond_both (nat_lt b a) (record { coef = a - b; lit = yes v } ∷ []) (cond (nat_lt a b) (record { coef = b - a; lit = no v } ∷ []) []) (λ (ts : List Term). weight_of ts ≤ a + b)
    (λ above. omega (arith, zero-add (a - b)))
    (λ other. cond_both (nat_lt a b) (record { coef = b - a; lit = no v } ∷ []) [] (λ (ts : List Term). weight_of ts ≤ a + b)
    (λ below. omega (arith, zero-add (b - a)))
    (λ same. omega arith))

weight_of-left : (count : Literal → ℕ) (n : ℕ) → weight_of (flat_map (λ v. left_over v (count (yes v)) (count (no v))) (range_with_len 0 n)) ≤ sum_by (count_both count) (range_with_len 0 n)
weight_of-left count zero = omega arith
weight_of-left count (suc n) =
    let left : List Term = flat_map (λ v. left_over v (count (yes v)) (count (no v))) (range_with_len 0 n) in
    let more : weight_of (flat_map (λ v. left_over v (count (yes v)) (count (no v))) (range_with_len 0 (suc n))) ≡ weight_of (left ++ left_over n (count (yes n)) (count (no n))) =
    ap weight_of (list_to-more (λ v. left_over v (count (yes v)) (count (no v))) n) in
    omega (
      arith,
      more,
      sum_by-append (λ (u : Term). u.coef) left (left_over n (count (yes n)) (count (no n))),
      sum_to-more (count_both count) n,
      weight_of-left_over n (count (yes n)) (count (no n)),
      weight_of-left count n,
    )

-- the row of a sum
pub IsWide-divided : (sum : Totals) (divisor : ℕ) → 1 ≤ divisor → IsCovered sum.count sum.weight → sum.weight ≤ widest → sum.degree ≤ widest → IsWide (divided divisor (cancelled sum))
IsWide-divided sum divisor positive covered total degree =
    let ordered = ordered-to sum.count (sum.top + 1) in
    record {
      coefs = divided-coefs divisor (cancelled sum).terms positive ordered.coefs;
      ascending = divided-ascending divisor (cancelled sum).terms ordered.ascending;
      weight = omega (arith, weight_of-divided divisor (cancelled sum).terms positive, weight_of-left sum.count (sum.top + 1), covered sum.top, total);
      degree = omega (arith, div_ceil-le (cancelled sum).degree divisor positive, degree);
    }
