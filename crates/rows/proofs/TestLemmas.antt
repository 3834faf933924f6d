-- What rows that count literals say of how many are true.
use Rattle.std.proofs.Common.{◌≡◌, ℕ, ◌+◌, ◌-◌, Bool, true, false, not, ◌&&◌, cond, List, [], ◌∷◌, ◌++◌, length, map}
use Rattle.std.proofs.Common.{refl, arith, ap, ◌∙◌}
use Rattle.std.specs.Prelude.{nat_le, ◌==◌}
use Rattle.std.proofs.lemmas.Bool.Decides.{nat_tests}
use Rattle.std.proofs.lemmas.Bool.{le-leb, leb-true}
use Rattle.std.proofs.lemmas.List.Folds.{fold-map}
use Rattle.std.proofs.lemmas.List.Sums.{AllPass-from_list_all, list_all-from_AllPass, sum_by-append, sum_by-cons}
use Rattle.rows.specs.Cardinality.{at_least, at_most, between, exactly, unit}
use Rattle.rows.specs.Literals.{Literal, negate}
use Rattle.rows.specs.Rows.{Row, SatisfiesAll, is_true, weight}
use Rattle.rows.specs.Tests.{all_satisfied, satisfied, true_count}
use Rattle.rows.specs.declared.lit.Term.{Term}

-- the test of all rows, and what it means
pub SatisfiesAll-from_true : (values : ℕ → Bool) (rows : List Row) → all_satisfied values rows ≡ true
    → SatisfiesAll values rows
SatisfiesAll-from_true values rows pass k d within =
    leb-true _ _ (AllPass-from_list_all (satisfied values) rows pass k d within)

pub all_satisfied-true : (values : ℕ → Bool) (rows : List Row) → SatisfiesAll values rows
    → all_satisfied values rows ≡ true
all_satisfied-true values rows meets =
    list_all-from_AllPass (satisfied values) rows (λ k d within. le-leb _ _ (meets k d within))

-- of a literal and its negation one is true
one_true : (positive value : Bool)
    → cond (cond (not positive) value (not value)) 1 0 + cond (cond positive value (not value)) 1 0 ≡ 1
one_true true true = refl
one_true true false = refl
one_true false true = refl
one_true false false = refl

-- the negations of the false ones are true
pub true_count-negate : (values : ℕ → Bool) (literals : List Literal)
    → true_count values (map negate literals) + true_count values literals ≡ length literals
true_count-negate values [] = refl
true_count-negate values (l ∷ literals) =
    let one : Literal → ℕ = λ k. cond (is_true values k) 1 0 in
    omega (
      arith,
      sum_by-cons one (negate l) (map negate literals),
      sum_by-cons one l literals,
      one_true l.positive (values l.var),
      true_count-negate values literals,
    )

pub true_count-append : (values : ℕ → Bool) (literals more : List Literal)
    → true_count values (literals ++ more) ≡ true_count values literals + true_count values more
true_count-append values literals more = sum_by-append (λ l. cond (is_true values l) 1 0) literals more

-- literals with coefficient 1 sum to how many are true
pub weight-units : (values : ℕ → Bool) (literals : List Literal)
    → weight values (map unit literals) ≡ true_count values literals
weight-units values literals =
    fold-map (λ (a : ℕ) (t : Term). a + cond (is_true values t.lit) t.coef 0) unit 0 literals

pub satisfied-at_least : (values : ℕ → Bool) (d : ℕ) (literals : List Literal)
    → satisfied values (at_least d literals) ≡ nat_le d (true_count values literals)
satisfied-at_least values d literals = ap (λ (w : ℕ). nat_le d w) (weight-units values literals)

-- a number of false literals tells whether at most so many are true
all_but : (count all b false_ones : ℕ) → false_ones + count ≡ all → nat_le (all - b) false_ones ≡ nat_le count b
all_but count all b false_ones sum = grind (arith, nat_tests)

pub satisfied-at_most : (values : ℕ → Bool) (b : ℕ) (literals : List Literal)
    → satisfied values (at_most b literals) ≡ nat_le (true_count values literals) b
satisfied-at_most values b literals =
    ap (λ (w : ℕ). nat_le (length literals - b) w) (weight-units values (map negate literals))
    ∙ all_but (true_count values literals) (length literals) b (true_count values (map negate literals))
    (true_count-negate values literals)

both_tests : (a b : Bool) → (a && (b && true)) ≡ (a && b)
both_tests true true = refl
both_tests true false = refl
both_tests false b = refl

pub satisfied-between : (values : ℕ → Bool) (low high : ℕ) (literals : List Literal)
    → all_satisfied values (between low high literals)
    ≡ (nat_le low (true_count values literals) && nat_le (true_count values literals) high)
satisfied-between values low high literals =
    both_tests (satisfied values (at_least low literals)) (satisfied values (at_most high literals))
    ∙ ap (λ (b : Bool). b && satisfied values (at_most high literals)) (satisfied-at_least values low literals)
    ∙ ap (λ (b : Bool). nat_le low (true_count values literals) && b) (satisfied-at_most values high literals)

exactly_between : (count d : ℕ) → (nat_le d count && nat_le count d) ≡ (count == d)
exactly_between count d = grind (arith, nat_tests)

pub satisfied-exactly : (values : ℕ → Bool) (d : ℕ) (literals : List Literal)
    → all_satisfied values (exactly d literals) ≡ (true_count values literals == d)
satisfied-exactly values d literals =
    satisfied-between values d d literals
    ∙ exactly_between (true_count values literals) d
