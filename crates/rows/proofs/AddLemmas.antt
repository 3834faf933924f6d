-- What a sum says where a row is added, or refused.
use Rattle.std.proofs.Common.{◌≡◌, ℕ, ◌+◌, ◌-◌, ◌*◌, ◌^◌, ◌<◌, ◌≤◌, true, false, ◌⊎◌, nat_lt, max, min, List, map, inl, inr, arith, ap, subst, sym, ◌∙◌}
use Rattle.std.specs.Prelude.{Contains}
use Rattle.std.specs.Int.{div_ceil}
use Rattle.std.specs.List.{All}
use Rattle.std.specs.List.Sorted.{IsPermutation}
use Rattle.std.proofs.lemmas.Bool.{le-ltb, lt-ltb, or_from, or_left, or_right}
use Rattle.std.proofs.Math.Nat.{mul-le-mul_left}
use Rattle.std.proofs.lemmas.List.Elements.{All-weaker}
use Rattle.std.proofs.lemmas.List.Sorted.{All-permutation, Contains-permutation}
use Rattle.std.proofs.lemmas.Nat.{mul-le}
use Rattle.rows.specs.Rows.{Row}
use Rattle.rows.specs.declared.lit.Term.{Term}
use Rattle.rows.specs.Sums.{IsWide, cancelled, divided, divided_term, is_too_wide, plus, top_of, weight_of, widest}
use Rattle.rows.specs.Tables.{AreCancelled, AreTouched, AreUpTo, IsKept, Table, count_at, totals_of}
use Rattle.rows.proofs.TableLemmas.{IsAdded, top_of-all, totals_of-added}
use Rattle.rows.proofs.WideLemmas.{IsWide-divided}

-- neither total is too wide
pub plus-narrow : (before now : Table) (factor : ℕ) (row : Row) → before ≡ now → before.weight + factor * weight_of row.terms ≤ widest → before.degree + factor * row.degree ≤ widest
    → is_too_wide (plus (totals_of now) factor row) ≡ false
plus-narrow before now factor row same weight degree =
    subst (λ (t : Table). is_too_wide (plus (totals_of t) factor row) ≡ false) same
    (or_from (nat_lt widest (before.weight + factor * weight_of row.terms)) (nat_lt widest (before.degree + factor * row.degree)) (le-ltb widest (before.weight + factor * weight_of row.terms) weight) (le-ltb widest (before.degree + factor * row.degree) degree))

-- one is
pub plus-wide : (before now : Table) (factor : ℕ) (row : Row) → before ≡ now → (widest < before.weight + factor * weight_of row.terms) ⊎ (widest < before.degree + factor * row.degree)
    → is_too_wide (plus (totals_of now) factor row) ≡ true
plus-wide before now factor row same above =
    subst (λ (t : Table). is_too_wide (plus (totals_of t) factor row) ≡ true) same
    (elim above [
      | inl weight ↦ or_left (nat_lt widest (before.weight + factor * weight_of row.terms)) (nat_lt widest (before.degree + factor * row.degree)) (lt-ltb widest (before.weight + factor * weight_of row.terms) weight)
      | inr degree ↦ or_right (nat_lt widest (before.weight + factor * weight_of row.terms)) (nat_lt widest (before.degree + factor * row.degree)) (lt-ltb widest (before.degree + factor * row.degree) degree)
    ])

-- the row is added
pub plus-added : (before after now : Table) (factor : ℕ) (row : Row) → before ≡ now → IsAdded before after factor row → totals_of after ≡ plus (totals_of now) factor row
plus-added before after now factor row same is = totals_of-added before after factor row is ∙ ap (λ (t : Table). plus (totals_of t) factor row) same

-- the greatest variable grows
pub up_to-max : (touched : List ℕ) (top more now : ℕ) → now ≡ max top more → AreUpTo top touched → AreUpTo now touched
up_to-max touched top more now is up_to = All-weaker (λ v. (1 ≤ v) × (v ≤ top)) (λ v. (1 ≤ v) × (v ≤ now)) (λ v within. (within.0, omega (arith, within.1, is))) touched up_to

pub known-max : (terms : List Term) (top now : ℕ) → now ≡ max top (top_of terms) → All (λ t. t.lit.var ≤ now) terms
known-max terms top now is = All-weaker (λ t. t.lit.var ≤ top_of terms) (λ t. t.lit.var ≤ now) (λ t within. omega (arith, within, is)) terms (top_of-all terms)

-- ---- the row of a table

-- what is seen of a list that was copied and sorted
pub All-sorted : (P : ℕ → Type 0) (touched copy sorted seen : List ℕ) → copy ≡ touched → IsPermutation copy sorted → seen ≡ sorted → All P touched → All P seen
All-sorted P touched copy sorted seen copied moved is all =
    subst (λ (xs : List ℕ). All P xs) (sym is) (All-permutation P copy sorted moved (subst (λ (xs : List ℕ). All P xs) (sym copied) all))

pub touched-sorted : (counts shown : List ℕ) (touched copy sorted seen : List ℕ) → shown ≡ counts → copy ≡ touched → IsPermutation copy sorted → seen ≡ sorted → AreTouched (count_at counts) touched → AreTouched (count_at shown) seen
touched-sorted counts shown touched copy sorted seen same copied moved is all l some =
    let found : Contains touched l.var = all l (λ none. some (ap (λ (xs : List ℕ). count_at xs l) same ∙ none)) in
    subst (λ (xs : List ℕ). Contains xs l.var) (sym is) (Contains-permutation copy sorted l.var moved (subst (λ (xs : List ℕ). Contains xs l.var) (sym copied) found))

abbrev row : List Term → ℕ → Row
row terms degree = record { terms = terms; degree = degree }

pub row_of-table : (t : Table) (shown : List ℕ) (divisor by : ℕ) (done : List Term) (left degree : ℕ) → shown ≡ t.counts → divisor ≡ by → AreCancelled (count_at shown) t.degree divisor done left (t.top + 1) → degree ≡ div_ceil left divisor
    → row done degree ≡ divided by (cancelled (totals_of t))
row_of-table t shown divisor by done left degree same is cancels rounded =
    let at : AreCancelled (count_at t.counts) t.degree divisor done left (t.top + 1) = subst (λ (xs : List ℕ). AreCancelled (count_at xs) t.degree divisor done left (t.top + 1)) same cancels in
    ap (λ (ts : List Term). row ts degree) at.terms
    ∙ ap (λ (n : ℕ). row (map (divided_term divisor) (cancelled (totals_of t)).terms) n) (rounded ∙ ap (λ (n : ℕ). div_ceil n divisor) at.rest)
    ∙ ap (λ (d : ℕ). divided d (cancelled (totals_of t))) is

pub IsWide-table : (t : Table) (touched : List ℕ) (by : ℕ) (made : Row) → IsKept t touched → 1 ≤ by → made ≡ divided by (cancelled (totals_of t)) → IsWide made
IsWide-table t touched by made kept positive is = subst (λ (r : Row). IsWide r) (sym is) (IsWide-divided (totals_of t) by positive kept.covered kept.weight kept.degree)

-- ---- a weight that is only known up to the greatest number

-- where the sum stays narrow it is exact
pub narrow_weight : (total factor more weight : ℕ) → 1 ≤ factor → more ≡ min weight (2 ^ 128 - 1) → total + factor * more ≤ widest → more ≡ weight
narrow_weight total factor more weight positive is narrow =
    let small : more ≤ widest = omega (arith, mul-le 1 more factor more positive (omega arith)) in
    omega arith

-- where the sum doesn't stay narrow, the weight is too wide too
pub wide_weight : (total factor more weight : ℕ) (other : Type 0) → more ≡ min weight (2 ^ 128 - 1) → (widest < total + factor * more) ⊎ other → (widest < total + factor * weight) ⊎ other
wide_weight total factor more weight other is above =
    elim above [
      | inl wide ↦ inl (omega (arith, wide, mul-le-mul_left factor (let most : more ≤ weight = omega arith in most)))
      | inr rest ↦ inr rest
    ]
