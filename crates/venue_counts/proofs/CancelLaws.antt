-- When a sum's row is in conflict with nothing set.
use Rattle.std.proofs.Common.{◌≡◌, ℕ, ◌+◌, ◌-◌, ◌<◌, ◌≤◌, Bool, true, false, nat_lt, min, max, cond}
use Rattle.std.proofs.Common.{List, [], ◌∷◌, refl, arith}
use Rattle.std.specs.List.{flat_map, sum_by}
use Rattle.std.proofs.lemmas.Bool.{cond_both, lt-ltb, ltb-false, ltb-true}
use Rattle.std.proofs.lemmas.List.Sums.{sum_by-append, sum_by-cons, sum_by-le-sum_by}
use Rattle.league.proofs.SumLemmas.{sum_by-same}
use Rattle.rows.specs.Literals.{Literal, negate, no, yes}
use Rattle.rows.specs.Partials.{is_false, opposite_of, reach, value_of}
use Rattle.rows.specs.declared.lit.Term.{Term}
use Rattle.rows.specs.declared.partial.Value.TheVariants.{Free}
use Rattle.rows.specs.Sums.{Totals, cancelled, count_in, left_over, variables_to, weight_of}
use Rattle.rows.specs.Tables.{common_at, left_at}
use Rattle.rows.proofs.CountLemmas.{count_both, counted-covered}
use Rattle.refutation.specs.Following.{all_free, is_in_conflict}

-- with nothing set all coefficients are within reach
possible : (positive : Bool) (coef : ℕ) → cond (is_false (cond positive Free (opposite_of Free))) 0 coef ≡ coef
possible true coef = refl
possible false coef = refl

reach-free : (terms : List Term) → reach all_free terms ≡ weight_of terms
reach-free terms =
    sum_by-same (λ (t : Term). cond (is_false (value_of all_free t.lit)) 0 t.coef) (λ t. t.coef)
    (λ t. possible t.lit.positive t.coef) terms

-- what is left of a variable and what cancels are the larger of its two counts
left-most : (v a b : ℕ) → weight_of (left_over v a b) + min a b ≡ max a b
left-most v a b =
    cond_both (nat_lt b a) (record { coef = a - b; lit = yes v } ∷ [])
    (cond (nat_lt a b) (record { coef = b - a; lit = no v } ∷ []) [])
    (λ (ts : List Term). weight_of ts + min a b ≡ max a b)
    (λ above. omega (arith, ltb-true b a above))
    (λ low. cond_both (nat_lt a b) (record { coef = b - a; lit = no v } ∷ []) []
    (λ (ts : List Term). weight_of ts + min a b ≡ max a b)
    (λ below. omega (arith, ltb-true a b below))
    (λ high. omega (arith, ltb-false b a low, ltb-false a b high)))

-- the larger of the two counts of a variable
abbrev larger_at : (Literal → ℕ) → ℕ → ℕ
larger_at count v = max (count (yes v)) (count (no v))

all_left-most : (count : Literal → ℕ) (vs : List ℕ)
    → weight_of (flat_map (left_at count) vs) + sum_by (common_at count) vs ≡ sum_by (larger_at count) vs
all_left-most count [] = refl
all_left-most count (v ∷ vs) =
    omega (
      arith,
      sum_by-append (λ (t : Term). t.coef) (left_at count v) (flat_map (left_at count) vs),
      sum_by-cons (common_at count) v vs,
      sum_by-cons (larger_at count) v vs,
      left-most v (count (yes v)) (count (no v)),
      all_left-most count vs,
    )

pub outcounted : (sum : Totals) → sum_by (larger_at sum.count) (variables_to sum.top) < sum.degree
    → is_in_conflict all_free (cancelled sum) ≡ true
outcounted sum below =
    lt-ltb (reach all_free (cancelled sum).terms) (cancelled sum).degree
    (omega (
      arith,
      reach-free (cancelled sum).terms,
      all_left-most sum.count (variables_to sum.top),
      below,
    ))

-- terms that are each counted at least as often as others at their negation
abbrev pub Outnumber : List Term → List Term → Type 0
Outnumber terms others = (l : Literal) → count_in others l ≤ count_in terms (negate l)

larger-le : (a b c d : ℕ) → c ≤ b → d ≤ a → max (a + c) (b + d) ≤ a + b
larger-le a b c d first second = omega (arith, first, second)

-- where terms outnumber others, no more than their coefficients are within reach or cancel
pub larger-covered : (terms others : List Term) (count : Literal → ℕ) (top : ℕ) → Outnumber terms others
    → ((l : Literal) → count l ≡ count_in terms l + count_in others l)
    → sum_by (larger_at count) (variables_to top) ≤ weight_of terms
larger-covered terms others count top more is =
    omega (
      arith,
      sum_by-le-sum_by (larger_at count) (count_both (count_in terms)) (variables_to top)
          (λ v. omega (
            arith,
            is (yes v),
            is (no v),
            larger-le (count_in terms (yes v)) (count_in terms (no v)) (count_in others (yes v))
                (count_in others (no v)) (more (yes v)) (more (no v)),
          )),
      counted-covered terms top,
    )
